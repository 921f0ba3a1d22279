use Rattle.std.proofs.Common.{[], ◌∷◌, ◌++◌, ℕ, refl, sym, subst, arith, length-append}
use Rattle.nb_service.specs.Header.{header_value}
use Rattle.nb_service.specs.Items.{no_item, ItemAt}
use Rattle.nb_service.proofs.WalkedLemmas.{items_more, walked_whole, walked_cut}
use Rattle.nb_service.proofs.seeing.walk.Goals as goal

pub items-init : goal.items-init
items-init c = ([], no_item, refl, omega arith)

pub items-preserved : goal.items-preserved
items-preserved c =
    let far = c.items.invariant in
    let found = rw c.in-Ok-Some.field-0-is at c.in-Ok-Some.ensures.found in
    let item = found.1.0 in
    let there = subst (λ (k : ℕ). ItemAt c.args.names.now (header_value c.args.header.now) k c.items.at item c.in-Ok-Some.seen.fields.extent.next) (sym far.2) found.1.1 in (
      far.0 ++ item ∷ [],
      items_more c.args.names.now (header_value c.args.header.now) _ _ _ far.0 item far.1 there,
      omega (arith, far.2, length-append far.0 (item ∷ [])),
      omega (arith, c.one_item.ensures.counted _ _ _ _ item _ found.1.1),
    )

pub returns-in-Ok-None : goal.returns-in-Ok-None
returns-in-Ok-None c =
    let far = c.items.invariant in
    let found = rw c.in-Ok-None.field-0-is at c.in-Ok-None.ensures.found in
    rw c.in_sections.ensures (walked_whole c.args.names.now (header_value c.args.header.now) far.0 _ _ far.2 c.requires far.1 far.3 found (λ x after i. c.one_item.ensures.counted _ _ _ _ x after i))

pub returns-in-Err : goal.returns-in-Err
returns-in-Err c =
    let far = c.items.invariant in
    rw c.in_sections-in-Err.ensures (walked_cut c.args.names.now (header_value c.args.header.now) far.0 _ _ _ far.2 c.requires far.1 c.in-Err.ensures.fault
    (λ x after i. c.one_item.ensures.alone _ _ _ _ _ x after c.in-Err.ensures.fault i))
