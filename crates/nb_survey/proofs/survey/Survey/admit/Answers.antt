use Rattle.std.proofs.Common.{◌≡◌, refl, ap, arith, true, None, sum_by}
use Rattle.std.proofs.lemmas.Grind.{common_steps}
use Rattle.std.proofs.lemmas.Map.Entries.{sum_by-insert_entry}
use Rattle.std.specs.Map.{values_of}
use Rattle.nb_survey.specs.Code.Kept.{kept_count, left_out, of_name}
use Rattle.nb_survey.specs.KeyFacts.{domain_cmp_total}
use Rattle.nb_survey.specs.declared.survey.Kept.{Kept}
use Rattle.nb_survey.proofs.KeepLemmas.{admits}
use Rattle.nb_survey.proofs.survey.Survey.admit.Goals as goal

pub returns-clause-admitted : goal.returns-clause-admitted
returns-clause-admitted c =
    let old = c.args.self.now in
    let n = c.args.name.now in
    let kept : Kept = record { is_whole = true; requests = c.new.result; queries = c.new-2.result } in
    let absent : of_name old n ≡ None = grind (arith, common_steps, c.contains_key.ensures, c.if-contains_key.false) in
    let none : left_out old ≡ 0 = omega arith in
    admits old _ n kept absent none refl (λ name. grind (arith, common_steps, c.in_ok-insert.ensures.updates.0 name)) refl
    refl c.new.ensures.items c.new-2.ensures.items
    (λ has. record { names = omega (arith, has.names, c.in_ok-insert.ensures.len); rows = has.rows; requests = has.requests })

pub returns-clause-bounded : goal.returns-clause-bounded
returns-clause-bounded c = λ b.
    let old = c.args.self.now in
    let kept : Kept = record { is_whole = true; requests = c.new.result; queries = c.new-2.result } in
    let none : kept_count kept ≡ 0 = rw (c.new.ensures.items, c.new-2.ensures.items) refl in
    let more = sum_by-insert_entry kept_count domain_cmp_total old.by_name.entries c.copied.result kept c.in_ok-insert.ensures.was_ordered in
    let total = ap (λ es. sum_by kept_count (values_of es)) c.in_ok-insert.ensures.entries in
    record {
      names = grind (arith, common_steps, b.names, c.in_ok-insert.ensures.len);
      rows = b.rows;
      refusals = b.refusals;
      others = b.others;
      requests = omega (arith, total, more, none, b.requests);
      count = b.count;
    }
