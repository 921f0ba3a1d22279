-- What an answer shows of the datagrams and error packets that are handed out.
use Rattle.nb_member.proofs.Common.{◌≡◌, ℕ, Bool, true, false, cond, List, [], ◌∷◌, ◌++◌, refl, sym, ap, ◌∙◌, Option, Some, None, Result, Ok, Err, filter, option_and_then, flat_map, option_to_list, NetbiosName, Key, ErrorPacket, DatagramParts, FragmentParts, Contents, newly_whole, datagram_at, EntryValue, MemberFault, Outcome, Delivered, Unheard, Settings, Answers, AnswersFragment, outcome_of, delivery_in, error_in, made_by, errors_by, error_of, hears, unheard, Saying, came, refused, another, clock, Timed, table_from, is_full, live_after}
use Rattle.nb_entries.specs.declared.outline.Change.TheVariants as change
use Rattle.nb_entries.specs.Change.{Change, whole_by as made_whole}
use Rattle.nb_table.specs.Change.{IsChange}
use Rattle.nb_entries.specs.Whole.{datagram_of, newly}
use Rattle.nb_member.proofs.TakingLemmas.Payloads.{live_same}
use Rattle.nb_entries.specs.Shared.WholeLemmas.{newly_none, newly_same}

-- ---- what becomes whole

whole_by : (a b : Contents) (k : Key) (c : Change) → IsChange a b k c → newly_whole a b k ≡ made_whole c
whole_by a b k change.Spoilt h =
    ap (λ (o : Option EntryValue). newly (datagram_at a k) (option_and_then (datagram_of k) o)) h.spoilt
    ∙ newly_none (datagram_at a k)
whole_by a b k (change.Whole d) h = h
whole_by a b k change.Same h =
    ap (λ (t : Contents). newly_whole a t k) h ∙ newly_same (datagram_at a k)
whole_by a b k change.Grown h = h.not_whole

-- ---- what is handed out

-- the error packet for a datagram, if it isn't heard
abbrev pub error_unless_heard : Settings → List NetbiosName → DatagramParts → List ErrorPacket
error_unless_heard settings names d = cond (hears names d) [] (option_to_list (unheard settings d))

heard_only : (b : Bool) (d : DatagramParts) (k : Key) (error : Option ErrorPacket)
    → cond b (d ∷ []) [] ≡ delivery_in (Ok (cond b (Delivered d) (Unheard k error)))
heard_only true d k error = refl
heard_only false d k error = refl

shown_delivery : (settings : Settings) (names : List NetbiosName) (k : Key) (c : Change)
    → filter (hears names) (option_to_list (made_whole c)) ≡ delivery_in (Ok (outcome_of settings names k c))
shown_delivery settings names k change.Spoilt = refl
shown_delivery settings names k (change.Whole d) = heard_only (hears names d) d k (unheard settings d)
shown_delivery settings names k change.Same = refl
shown_delivery settings names k change.Grown = refl

one_error : (error : Option ErrorPacket) → option_to_list error ++ [] ≡ option_to_list error
one_error None = refl
one_error (Some e) = refl

unheard_only : (b : Bool) (d : DatagramParts) (k : Key) (error : Option ErrorPacket)
    → cond b [] (option_to_list error) ++ [] ≡ error_in (Ok (cond b (Delivered d) (Unheard k error)))
unheard_only true d k error = refl
unheard_only false d k error = one_error error

shown_error : (settings : Settings) (names : List NetbiosName) (k : Key) (c : Change)
    → flat_map (error_unless_heard settings names) (option_to_list (made_whole c))
    ≡ error_in (Ok (outcome_of settings names k c))
shown_error settings names k change.Spoilt = refl
shown_error settings names k (change.Whole d) = unheard_only (hears names d) d k (unheard settings d)
shown_error settings names k change.Same = refl
shown_error settings names k change.Grown = refl

-- ---- by what is said

-- a fragment that meets the limit makes nothing whole
full_makes_none : (settings : Settings) (L : List Timed) (moment : ℕ) (f : FragmentParts) → is_full settings L f.key ≡ true
    → newly_whole (table_from L) (table_from (live_after settings L (came moment f))) f.key ≡ None
full_makes_none settings L moment f full =
    ap (λ (M : List Timed). newly_whole (table_from L) (table_from M) f.key) (live_same settings L moment f full)
    ∙ newly_same (datagram_at (table_from L) f.key)

came_delivers : (settings : Settings) (names : List NetbiosName) (L : List Timed) (moment : ℕ) (f : FragmentParts)
    (result : Result Outcome MemberFault) → AnswersFragment settings names L (came moment f) f result
    → filter (hears names) (made_by settings L (came moment f)) ≡ delivery_in result
came_delivers settings names L moment f (Ok outcome) a =
    ap (λ (o : Option DatagramParts). filter (hears names) (option_to_list o))
    (whole_by (table_from L) (table_from (live_after settings L (came moment f))) f.key a.change a.changed)
    ∙ (shown_delivery settings names f.key a.change ∙ sym (ap (λ (o : Outcome). delivery_in (Ok o)) a.answered))
came_delivers settings names L moment f (Err x) a =
    ap (λ (o : Option DatagramParts). filter (hears names) (option_to_list o)) (full_makes_none settings L moment f a.0)

came_errors : (settings : Settings) (names : List NetbiosName) (L : List Timed) (moment : ℕ) (f : FragmentParts)
    (result : Result Outcome MemberFault) → AnswersFragment settings names L (came moment f) f result
    → errors_by settings names L (came moment f) ≡ error_in result
came_errors settings names L moment f (Ok outcome) a =
    ap (λ (o : Option DatagramParts). flat_map (error_unless_heard settings names) (option_to_list o))
    (whole_by (table_from L) (table_from (live_after settings L (came moment f))) f.key a.change a.changed)
    ∙ (shown_error settings names f.key a.change ∙ sym (ap (λ (o : Outcome). error_in (Ok o)) a.answered))
came_errors settings names L moment f (Err x) a =
    ap (λ (o : Option DatagramParts). flat_map (error_unless_heard settings names) (option_to_list o))
    (full_makes_none settings L moment f a.0)
    ∙ sym (ap (λ (y : MemberFault). option_to_list (error_of y)) a.1)

-- the datagrams that are handed over are what the answer shows
pub answer_delivers : (settings : Settings) (names : List NetbiosName) (L : List Timed) (s : Saying)
    (result : Result Outcome MemberFault) → Answers settings names L s result
    → filter (hears names) (made_by settings L s) ≡ delivery_in result
answer_delivers settings names L (came moment f) result a = came_delivers settings names L moment f result a
answer_delivers settings names L (refused x) result a = sym (ap delivery_in a)
answer_delivers settings names L another result a = sym (ap delivery_in a)
answer_delivers settings names L (clock now) result a = absurd a

-- and so are the error packets
pub answer_errs : (settings : Settings) (names : List NetbiosName) (L : List Timed) (s : Saying)
    (result : Result Outcome MemberFault) → Answers settings names L s result
    → errors_by settings names L s ≡ error_in result
answer_errs settings names L (came moment f) result a = came_errors settings names L moment f result a
answer_errs settings names L (refused x) result a = sym (ap error_in a)
answer_errs settings names L another result a = sym (ap error_in a)
answer_errs settings names L (clock now) result a = absurd a
