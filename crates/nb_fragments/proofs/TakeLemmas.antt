-- A fragment that comes: the clock goes on, and then the fragment is joined.
use Rattle.std.proofs.Common.{◌≡◌, ◌≤◌, sym, subst, arith, List, Result, Ok, Err, OnErr, IfOk}
use Rattle.nb_streams.specs.declared.bytes.NoMemory.{NoMemory}
use Rattle.nb_datagram.specs.declared.limits.TheConstants.{MAX_LENGTH}
use Rattle.nb_entries.specs.Piece.{PieceParts, piece_reach}
use Rattle.nb_frames.specs.declared.carried.IpFragment.{IpFragment}
use Rattle.nb_fragments.specs.declared.taken.Taken.{Taken}
use Rattle.nb_fragments.specs.declared.taken.Taken.TheVariants.{Whole, Kept, Again, Disagrees, LeftOut}
use Rattle.nb_fragments.specs.declared.taken.Refusal.TheVariants.{Cut, TooLong, TooMany}
use Rattle.nb_fragments.specs.declared.fragments.Fragments.{Fragments}
use Rattle.nb_fragments.specs.Live.{Came, live_at}
use Rattle.nb_fragments.specs.Taking.{Answers, IsCut, IsLong, MakesOf, live_after, piece_in}
use Rattle.nb_fragments.specs.Code.Kept.{Waits, clock_of}

pub take_live : (f g h : Fragments) (came now : Came) (r : Result Taken NoMemory) → came ≡ now → clock_of h ≡ clock_of g
    → ((live : List Came) → Waits f live → Waits g (live_at (clock_of g) live))
    → IfOk r (λ taken. (live : List Came) → Waits g live → Waits h (live_after taken came live))
    → IfOk r (λ taken. (live : List Came) → Waits f live → Waits h (live_after taken now (live_at (clock_of h) live)))
take_live f g h came now (Err e) same clock on joined = tt
take_live f g h came now (Ok taken) same clock on joined = λ live w.
    subst (λ (x : Came). Waits h (live_after taken x (live_at (clock_of h) live))) same
    (subst (λ n. Waits h (live_after taken came (live_at n live))) (sym clock) (joined (live_at (clock_of g) live) (on live w)))

answers_of : (f : IpFragment) (came : Came) (live : List Came) (taken : Taken) → (IsCut f → ⊥) → (IsLong f → ⊥) → MakesOf came live taken → Answers f came live taken
answers_of f came live (Whole bytes) cut long m = (cut, (long, m))
answers_of f came live Kept cut long m = (cut, (long, m))
answers_of f came live Again cut long m = (cut, (long, m))
answers_of f came live Disagrees cut long m = (cut, (long, m))
answers_of f came live (LeftOut Cut) cut long m = absurd (cc m)
answers_of f came live (LeftOut TooLong) cut long m = absurd (cc m)
answers_of f came live (LeftOut TooMany) cut long m = (cut, (long, m))

pub take_answer : (f g h : Fragments) (fragment : IpFragment) (came now : Came) (r : Result Taken NoMemory) → came ≡ now → clock_of h ≡ clock_of g
    → ((live : List Came) → Waits f live → Waits g (live_at (clock_of g) live)) → (IsCut fragment → ⊥) → (IsLong fragment → ⊥)
    → IfOk r (λ taken. (live : List Came) → Waits g live → MakesOf came live taken)
    → IfOk r (λ taken. (live : List Came) → Waits f live → Answers fragment now (live_at (clock_of h) live) taken)
take_answer f g h fragment came now (Err e) same clock on cut long makes = tt
take_answer f g h fragment came now (Ok taken) same clock on cut long makes = λ live w.
    answers_of fragment now (live_at (clock_of h) live) taken cut long
    (subst (λ (x : Came). MakesOf x (live_at (clock_of h) live) taken) same
    (subst (λ n. MakesOf came (live_at n live) taken) (sym clock) (makes (live_at (clock_of g) live) (on live w))))

pub take_err : (f g h : Fragments) (r : Result Taken NoMemory) → clock_of h ≡ clock_of g
    → ((live : List Came) → Waits f live → Waits g (live_at (clock_of g) live))
    → OnErr r ((live : List Came) → Waits g live → Waits h live)
    → OnErr r ((live : List Came) → Waits f live → Waits h (live_at (clock_of h) live))
take_err f g h (Ok taken) clock on kept = tt
take_err f g h (Err e) clock on kept = λ live w. subst (λ n. Waits h (live_at n live)) (sym clock) (kept (live_at (clock_of g) live) (on live w))

-- a fragment whose piece reaches no further than a packet may
pub not_long : (f : IpFragment) (piece : PieceParts) → piece ≡ piece_in f → piece_reach piece ≤ MAX_LENGTH → IsLong f → ⊥
not_long f piece is fits long = let most : piece_reach (piece_in f) ≤ MAX_LENGTH = subst (λ (p : PieceParts). piece_reach p ≤ MAX_LENGTH) is fits in absurd (omega (arith, most, long))
