use Rattle.std.proofs.Common.{List, ℕ, ◌++◌, codes, refl, ap}
use Rattle.std.specs.Fmt.{decimal}
use Rattle.std.proofs.lemmas.List.{append-nil}
use Rattle.nb_text.proofs.SaidLemmas.{followed, none_follow}
use Rattle.nb_text.specs.Said.{session_said}
use Rattle.nb_text.proofs.laws.phrases.refusals_in_words.Goals as goal

pub returns : goal.returns
returns c = record {
  placed = λ at. (
    ap (λ (t : List ℕ). codes "refused: truncated, at byte " ++ t) (append-nil (decimal at)),
    ap (λ (t : List ℕ). codes "refused: destination name: bad pointer, at byte " ++ t) (append-nil (decimal at)),
    ap (λ (t : List ℕ). codes "refused: trailing bytes, at byte " ++ t) (append-nil (decimal at)),
  );
  in_names = λ place. (refl, refl, refl);
  unplaced = (refl, refl);
  fronts = λ needed size. refl;
  alone = λ packet used. none_follow (session_said packet) used;
  followed = followed;
}
