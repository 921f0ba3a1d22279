-- What rows are of: in the table *names* a name and an address, in the table *refusals* also who refuses it, and why; and the order of
-- rows (our choice): by name, by address, then by reason and sender.
use Rattle.std.specs.Prelude.{ℕ, ◌+◌, ◌*◌, Bool, false, Option, Some, None, if◌then◌else◌}
use Rattle.std.specs.Option.{option_cmp}
use Rattle.std.specs.Ordering.{nat_cmp, on, then_cmp, eq_by_cmp}
use Rattle.std.specs.declared.cmp.Ordering.{Ordering}
use Rattle.nb_names.specs.DomainName.{domain_cmp}
use Rattle.nb_survey.specs.declared.heard.Said.{Said}
use Rattle.nb_survey.specs.declared.key.Key.{Key}
use Rattle.nb_survey.specs.declared.key.Reason.{Reason}
use Rattle.nb_survey.specs.declared.word.Word.{Word}
use Rattle.nb_survey.specs.declared.word.Word.TheVariants.{ToldOfConflict, Refused, ListsInConflict, NotReleased}
use Rattle.nb_survey.specs.Places.{address_cmp}
use Rattle.nb_survey.specs.Words.{is_refusal}

-- the place of a word among reasons; words that refuse nothing have the last one
abbrev pub number_of : Word → ℕ
number_of ToldOfConflict = 0
number_of ListsInConflict = 1
number_of (Refused code) = 2 + 2 * code
number_of (NotReleased code) = 3 + 2 * code
number_of _ = 1000

-- the place of a reason: that of its word, whole packets before malformed ones
abbrev pub rank : Reason → ℕ
rank reason = 2 * number_of reason.word + (if reason.is_malformed then 1 else 0)

-- the order of reasons
abbrev pub reason_cmp : Reason → Reason → Ordering
reason_cmp = then_cmp (on rank nat_cmp) (on (λ r. r.by) address_cmp)

-- the order of rows
abbrev pub key_cmp : Key → Key → Ordering
key_cmp = then_cmp (on (λ k. k.name) domain_cmp) (then_cmp (on (λ k. k.address) address_cmp) (on (λ k. k.reason) (option_cmp reason_cmp)))

-- they are one row
abbrev pub same_key : Key → Key → Bool
same_key = eq_by_cmp key_cmp

-- the row of a word in the table *names*
abbrev pub name_key : Said → Option Key
name_key said = Some (record { name = said.place.name; address = said.place.address; reason = None })

-- who refuses, with which word
abbrev pub reason_of : Said → Reason
reason_of said = record { by = said.facts.frame.source; word = said.word; is_malformed = said.facts.is_malformed }

-- the row of a word in the table *refusals*; none of a word that refuses nothing
abbrev pub refusal_key : Said → Option Key
refusal_key said =
    if is_refusal said.word then Some (record { name = said.place.name; address = said.place.address; reason = Some (reason_of said) }) else None

-- has_key key other: a word has this row
abbrev pub has_key : Key → Option Key → Bool
has_key key None = false
has_key key (Some other) = same_key other key
