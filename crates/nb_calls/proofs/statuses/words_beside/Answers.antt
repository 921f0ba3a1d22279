use Rattle.nb_calls.proofs.Common.{rules, tests, ◌≡◌, ◌∙◌, ap, sym, ℕ, List, Bor, Option, option_map, nat_eq}
use Rattle.std.proofs.lemmas.Iterator.{YieldsList-from_slice}
use Rattle.std.proofs.lemmas.Iterator.Search.{find_from_yields_List}
use Rattle.nb_calls.proofs.WordLemmas.{found_made}
use Rattle.nb_calls.proofs.statuses.words_beside.Goals as goal

pub returns : goal.returns
returns c =
    let row : ℕ × Bor (List ℕ) → ℕ × List ℕ = λ r. (r.0, r.1.now) in
    let words : Option (ℕ × Bor (List ℕ)) → Option (List ℕ) = λ found. option_map (λ (r : ℕ × List ℕ). r.1) (option_map row found) in
    let mapped : option_map (λ (w : Bor (List ℕ)). w.now) c.map.result
    ≡ words (option_map (λ (r : Bor (ℕ × Bor (List ℕ))). r.now) c.find.result) = search (rules, tests) in
    mapped ∙ ap words (find_from_yields_List (λ (r : ℕ × Bor (List ℕ)). nat_eq r.0 c.args.number) _ _ c.find.result c.find.ensures.ran
    (YieldsList-from_slice c.args.rows.now cc) (λ x b q k. search (rules, tests)))
    ∙ ap (option_map (λ (r : ℕ × List ℕ). r.1)) (sym (found_made row (λ r. nat_eq r.0 c.args.number) c.args.rows.now))
