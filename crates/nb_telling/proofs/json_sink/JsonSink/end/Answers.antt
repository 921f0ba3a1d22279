use Rattle.std.proofs.Common.{◌≡◌, List, [], ◌∷◌, ◌++◌, ap, drop, length, ◌∙◌}
use Rattle.std.proofs.lemmas.List.{drop_at}
use Rattle.json.specs.Token.{Token, end_object}
use Rattle.json.specs.Print.{print}
use Rattle.nb_telling.proofs.MemberLemmas.{object_json}
use Rattle.nb_telling.proofs.json_sink.JsonSink.end.Goals as goal

pub returns-clause-json : goal.returns-clause-json
returns-clause-json c depth fields are low same =
    let all = c.end_object.new.self.tokens in
    let ended : all ≡ c.args.self ++ end_object ∷ [] =
    c.in_ok-end_object.ensures.ok ∙ ap (λ (ts : List Token). ts ++ end_object ∷ []) c.self.view_is in
    let is : drop c.self.inside.start c.into_inner.result.items ≡ print all =
    ap (drop c.self.inside.start) c.into_inner.ensures.items ∙ drop_at c.end_object.new.self.before (print all) c.self.inside.start (ap length c.in_ok-end_object.ensures.room.0 ∙ c.self.invariant) in
    object_json depth fields _ all c.args.self are low same ended is c.into_inner.ensures.reads_back
