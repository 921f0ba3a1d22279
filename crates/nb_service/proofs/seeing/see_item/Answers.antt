use Rattle.std.proofs.Common.{◌≡◌, ℕ, List, Option, refl, subst}
use Rattle.nb_service.specs.declared.packet.Section.{Section}
use Rattle.nb_service.specs.declared.seen.Seen.{Seen}
use Rattle.nb_service.specs.Header.{header_value}
use Rattle.nb_service.specs.Items.{PacketItem, asked, told, question_there, record_there, question_fails, record_fails, Sees, section_of}
use Rattle.nb_service.proofs.NumberedLemmas.{record_counted, record_late}
use Rattle.nb_service.proofs.seeing.see_item.Goals as goal

-- what is answered of an item, beside where it stands
abbrev Answered : List ℕ → Option Section → Seen → PacketItem → Type 0
Answered packet section seen item = Sees packet item seen × (section ≡ section_of item)

same_answer : (packet : List ℕ) (section : Option Section) (seen : Seen) (x y : PacketItem) → x ≡ y → Answered packet section seen x → Answered packet section seen y
same_answer packet section seen x y same is = subst (Answered packet section seen) same is

pub returns-then-number-header-clause-found : goal.returns-then-number-header-clause-found
returns-then-number-header-clause-found c =
    let there = c.in_ok-seen.ensures.found in
    (there.0, (asked there.1.0, question_there _ _ c.if-number-header.true (rw (← there.0) there.1.1.stands), there.1.1, refl))

pub returns-then-number-header-clause-only : goal.returns-then-number-header-clause-only
returns-then-number-header-clause-only c item next is =
    let there = c.in_ok-seen.ensures.found in
    let one = c.one_item.ensures.one _ _ _ _ (asked there.1.0) item _ next (question_there _ _ c.if-number-header.true (rw (← there.0) there.1.1.stands)) is in
    let same = same_answer _ _ _ (asked there.1.0) item one.0 (there.1.1, refl) in
    (there.0, one.1, same.0, same.1)

pub returns-in_err-seen-2-clause-only : goal.returns-in_err-seen-2-clause-only
returns-in_err-seen-2-clause-only c item next is =
    let header = header_value c.args.header.now in
    absurd (c.one_item.ensures.alone _ _ _ _ _ item next
    (record_fails (record_late header c.args.number c.in-Some.section c.in-Some.ensures)
    (record_counted header c.args.number c.in-Some.section c.in-Some.ensures) c.in_err-seen-2.ensures.fault) is)

pub returns-clause-found : goal.returns-clause-found
returns-clause-found c =
    let there = c.in_ok-seen-2.ensures.found in
    (there.0, (told c.in-Some.section there.1.0, record_there c.in-Some.section _ _ c.in-Some.ensures (rw (← there.0) there.1.1.stands), there.1.1, refl))

pub returns-clause-only : goal.returns-clause-only
returns-clause-only c item next is =
    let there = c.in_ok-seen-2.ensures.found in
    let one = c.one_item.ensures.one _ _ _ _ (told c.in-Some.section there.1.0) item _ next (record_there c.in-Some.section _ _ c.in-Some.ensures (rw (← there.0) there.1.1.stands)) is in
    let same = same_answer _ _ _ (told c.in-Some.section there.1.0) item one.0 (there.1.1, refl) in
    (there.0, one.1, same.0, same.1)

pub returns-in_err-seen-clause-only : goal.returns-in_err-seen-clause-only
returns-in_err-seen-clause-only c item next there =
    absurd (c.one_item.ensures.alone _ _ _ _ _ item next (question_fails c.if-number-header.true c.in_err-seen.ensures.fault) there)
