use Rattle.std.proofs.Common.{◌∙◌, sym, ap, [], ◌++◌}
use Rattle.std.proofs.lemmas.List.{flat_map_more}
use Rattle.std.proofs.lemmas.Result.{on_ok_weaker}
use Rattle.std.specs.Option.{option_or}
use Rattle.nb_survey.specs.Hearing.{listed_in, operation_in, own_entries, own_ttl}
use Rattle.nb_survey.proofs.HearingLemmas.{first_of-more}
use Rattle.nb_survey.proofs.hearing.Found.take.Goals as goal

pub returns : goal.returns
returns c =
    let name = c.args.name.now in
    let entry = c.args.entry.now in
    on_ok_weaker c.push_listed.result (λ listed records h. record {
      ttl =
          let more = first_of-more (own_ttl name) records entry in
          let old = h.ttl in
          c.or-self.ensures ∙ (ap (λ o. option_or c.args.self.now.ttl o) c.own_ttl.ensures ∙ (ap (λ o. option_or o (own_ttl name entry)) old ∙ sym more));
      entries = c.in_ok-push_own.ensures ∙ (ap (λ xs. xs ++ own_entries name entry) h.entries ∙ flat_map_more (own_entries name) [] records entry);
      listed = listed ∙ (ap (λ xs. xs ++ listed_in entry) h.listed ∙ flat_map_more listed_in [] records entry);
      waits_for = c.or-self-2.ensures ∙ (ap (λ o. option_or c.args.self.now.waits_for o) c.operation_in.ensures
          ∙ (ap (λ o. option_or o (operation_in entry)) h.waits_for ∙ sym (first_of-more operation_in records entry)));
    }) c.push_listed.ensures
