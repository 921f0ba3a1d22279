-- What a member hands over of another table is what was said of it before.
use Rattle.nb_calls.proofs.Common.{◌≡◌, ℕ, ◌≤◌, List, length, Result, Ok, Err, IfOk, subst, sym, DatagramParts, Contents, NoMemory, of_memory, MemberValue, Hears, hears, lacks, Joined, done, all_heard}
use Rattle.nb_member.specs.Taking.{Absorbs, Previews}

-- the bytes of what it would hand over
pub hears_all : (m : MemberValue) (other : Contents) (datagrams : List DatagramParts) (told : Result (List ℕ) NoMemory)
    → Previews m other datagrams → IfOk told (λ (bytes : List ℕ). bytes ≡ all_heard datagrams) → Hears m other (of_memory told)
hears_all m other datagrams (Ok bytes) p e = subst (λ (told : List ℕ). Hears m other (Ok told)) (sym e) (hears datagrams p)
hears_all m other datagrams (Err fault) p e = lacks datagrams p

-- what it said is what it hands over
pub joins : (m : MemberValue) (moment : ℕ) (other : Contents) (room : ℕ) (after : MemberValue) (bytes : List ℕ)
    (datagrams : List DatagramParts) → Hears m other (Ok bytes) → Absorbs m other moment after datagrams
    → ((said : List DatagramParts) → Previews m other said → datagrams ≡ said) → length bytes ≤ room
    → Joined m moment other room after (Ok bytes)
joins m moment other room after _ datagrams (hears said p) absorbs one fits =
    done said (subst (λ (ds : List DatagramParts). Absorbs m other moment after ds) (one said p) absorbs) fits
