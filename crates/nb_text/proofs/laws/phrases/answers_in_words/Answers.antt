use Rattle.std.proofs.Common.{◌∷◌, [], ◌++◌, codes}
use Rattle.nb_streams.specs.Addresses.{address_text}
use Rattle.nb_text.proofs.SaidLemmas.{held, named}
use Rattle.nb_text.proofs.laws.phrases.answers_in_words.Goals as goal

pub returns : goal.returns
returns c = record {
  found = λ id ttl flags others a b c d e f g h name is low.
      held (codes "answers: ") _ _ (address_text (a ∷ b ∷ c ∷ d ∷ []) ++ (codes ", " ++ address_text (e ∷ f ∷ g ∷ h ∷ []))) name flags is low;
  absent = λ id ttl name is. named (codes "answers: ") (codes " is not found: no such name (NAM_ERR)") name is;
}
