use Rattle.nbt_packets.proofs.Common.{◌≡◌, List, ℕ, Some, None, sym, subst, ap, ◌∙◌, map, option_map, unwrap_or, [], IfOk-weaker, MatchResult-weaker}
use Rattle.nb_building.specs.Built.{Names}
use Rattle.nbt_packets.proofs.build.lines_of.Goals as goal

pub returns-in-Some-clause-built : goal.returns-in-Some-clause-built
returns-in-Some-clause-built c =
    IfOk-weaker c.capture_lines.result _ _
    (λ lines built. record {
      broadcast = c.is_given-broadcast.result;
      what = _;
      words = _;
      given = record { has_flag = c.is_given-broadcast.ensures; has_what = sym c.get_str.ensures ∙ ap (option_map (λ s. s.now)) c.in-Some.is; has_words = sym c.words_of.ensures };
      built = built;
    })
    c.capture_lines.ensures.built

pub returns-in-Some-clause-too_long : goal.returns-in-Some-clause-too_long
returns-in-Some-clause-too_long c =
    MatchResult-weaker c.capture_lines.result c.capture_lines.ensures.too_long (λ lines t. t)
    (λ fault why too. record {
      broadcast = c.is_given-broadcast.result;
      what = _;
      words = _;
      given = record { has_flag = c.is_given-broadcast.ensures; has_what = sym c.get_str.ensures ∙ ap (option_map (λ s. s.now)) c.in-Some.is; has_words = sym c.words_of.ensures };
      too_much = why too;
    })

pub returns-in-Some-clause-refused : goal.returns-in-Some-clause-refused
returns-in-Some-clause-refused c =
    let words : List (List ℕ) = map (λ w. w.now) c.words_of.result.now in
    MatchResult-weaker c.capture_lines.result c.capture_lines.ensures.refused (λ lines t. t)
    (λ fault unnamed other what is. record {
      broadcast = c.is_given-broadcast.result;
      words = words;
      given = record { has_flag = c.is_given-broadcast.ensures; has_what = is; has_words = sym c.words_of.ensures };
      none = λ bytes are.
          let same = ap (λ o. unwrap_or o []) (sym is ∙ sym c.get_str.ensures ∙ ap (option_map (λ s. s.now)) c.in-Some.is) in
          unnamed other (are.port, are.payloads) (subst (λ w. Names c.is_given-broadcast.result w words are.port are.payloads) same are.named);
    })

pub returns-in-None-clause-refused : goal.returns-in-None-clause-refused
returns-in-None-clause-refused c =
    λ _ what is. (let clash : None ≡ Some what = ap (option_map (λ s. s.now)) (sym c.in-None.is) ∙ c.get_str.ensures ∙ is in absurd (cc))
