use Rattle.std.proofs.Common.{[], ◌∷◌, ◌++◌, ℕ, refl, sym, ap, subst, not, arith, length, length-append}
use Rattle.std.proofs.lemmas.Bool.{le-ltb, lt-ltb}
use Rattle.nb_service.specs.Header.{header_value}
use Rattle.nb_service.specs.Items.{no_item, ItemAt}
use Rattle.nb_service.specs.ServiceFaults.{item_count}
use Rattle.nb_service.proofs.WalkedLemmas.{fails_counted, items_more}
use Rattle.nb_survey.proofs.hearing.Found.take_all.Goals as goal

pub items-init : goal.items-init
items-init c = ([], no_item, refl, omega arith, c.requires.none)

pub items-preserved : goal.items-preserved
items-preserved c =
    let far = c.items.invariant in
    let found = rw c.in-Ok-Some.field-0-is at c.in-Ok-Some.ensures.found in
    let item = found.1.0 in
    let there = subst (λ (k : ℕ). ItemAt c.args.names.now (header_value c.args.header.now) k c.items.at item c.in-Ok-Some.seen.fields.extent.next) (sym far.2) found.1.1 in (
      far.0 ++ item ∷ [],
      items_more c.args.names.now (header_value c.args.header.now) _ _ _ far.0 item far.1 there,
      omega (arith, far.2, length-append far.0 (item ∷ [])),
      omega (arith, c.one_item.ensures.counted _ _ _ _ item _ found.1.1),
      c.in_ok-take_item-in-Ok-Some.ensures item far.0 found.1.2 found.1.3 far.4,
    )

pub returns-in-Ok-None : goal.returns-in-Ok-None
returns-in-Ok-None c =
    let header = header_value c.args.header.now in
    let far = c.items.invariant in
    let all = rw c.in-Ok-None.field-0-is at c.in-Ok-None.ensures.found in
    record {
      items = far.0;
      next = c.items.at;
      stands = record {
        header_there = c.requires.header;
        items_there = far.1;
        no_further = λ item after i. absurd (omega (arith, all, far.2, c.one_item.ensures.counted c.args.names.now header (length far.0) c.items.at item after i));
      };
      whole = sym (ap not (le-ltb (length far.0) (item_count header) (omega (arith, all, far.2))));
      has = far.4;
    }

pub returns-in-Err : goal.returns-in-Err
returns-in-Err c =
    let bytes = c.args.names.now in
    let header = header_value c.args.header.now in
    let far = c.items.invariant in
    let fails = c.in-Err.ensures.fault in
    let low = fails_counted bytes header c.items.number c.items.at c.in-Err.field-0 fails in
    record {
      items = far.0;
      next = c.items.at;
      stands = record {
        header_there = c.requires.header;
        items_there = far.1;
        no_further = λ item after i. c.one_item.ensures.alone bytes header c.items.number c.items.at c.in-Err.field-0 item after fails
            (subst (λ (k : ℕ). ItemAt bytes header k c.items.at item after) far.2 i);
      };
      whole = sym (ap not (lt-ltb (length far.0) (item_count header) (omega (arith, low, far.2))));
      has = far.4;
    }
