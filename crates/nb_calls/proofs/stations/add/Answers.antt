use Rattle.nb_calls.proofs.Common.{◌≡◌, ◌+◌, List, length, subst, arith, NetbiosName, BadText, TooLong, AreNames, bad, present, too_many, more}
use Rattle.nb_calls.proofs.stations.add.Goals as goal

pub returns-in-Ok-add : goal.returns-in-Ok-add
returns-in-Ok-add c =
    let added = c.in-Ok-add.ensures in (
      (c.in-Ok.name, c.in-Ok.ensures),
      λ words answer rest. more c.in-Ok.name c.in-Ok.ensures added.0 added.1
          (subst (λ (held : List NetbiosName). AreNames (c.args.place + length c.args.text.now + 1) held words answer) added.2 rest),
    )

pub returns-in-Err-Present : goal.returns-in-Err-Present
returns-in-Err-Present c words =
    let held = rw c.in-Err-Present.field-0-is at c.in-Err-Present.ensures in present c.in-Ok.name c.in-Ok.ensures held.0

pub returns-in-Err-TooMany : goal.returns-in-Err-TooMany
returns-in-Err-TooMany c words =
    let full = rw c.in-Err-TooMany.field-0-is at c.in-Err-TooMany.ensures in too_many c.in-Ok.name c.in-Ok.ensures full.0 full.1

pub returns-in-Err-NoMemory : goal.returns-in-Err-NoMemory
returns-in-Err-NoMemory c =
    let lacks = rw c.in-Err-NoMemory.field-0-is at c.in-Err-NoMemory.ensures in ((c.in-Ok.name, c.in-Ok.ensures), lacks.2)

pub returns-in-Err-BadText : goal.returns-in-Err-BadText
returns-in-Err-BadText c words =
    let fails = rw c.in-Err-BadText.field-0-is at c.in-Err-BadText.ensures in
    let exact : c.saturating_add.result ≡ c.args.place + c.in-Err-BadText.at = grind (arith, c.saturating_add.ensures, fails.1.within, c.requires) in
    rw exact (bad (BadText c.in-Err-BadText.at) fails)

pub returns-in-Err-TooLong : goal.returns-in-Err-TooLong
returns-in-Err-TooLong c words = bad TooLong (rw c.in-Err-TooLong.field-0-is at c.in-Err-TooLong.ensures)
