use Rattle.std.proofs.Common.{◌∷◌, [], ◌++◌, codes}
use Rattle.nb_streams.specs.Addresses.{address_text}
use Rattle.nb_text.proofs.SaidLemmas.{held, named, named_last}
use Rattle.nb_text.specs.Sentences.{lasting}
use Rattle.nb_text.proofs.laws.phrases.outcomes_in_words.Goals as goal

pub returns : goal.returns
returns c = record {
  granted = λ id ttl flags a b c d name is low. held (codes "grants ") _ _ (address_text (a ∷ b ∷ c ∷ d ∷ []) ++ lasting ttl) name flags is low;
  refused = λ id ttl flags a b c d name is. named (codes "refuses ") (codes ": owned by another node (ACT_ERR)") name is;
  challenged = λ id ttl flags a b c d name is. named (codes "asks to challenge ") (codes " at " ++ address_text (a ∷ b ∷ c ∷ d ∷ [])) name is;
  conflicts = λ id ttl flags a b c d name is. named_last (codes "conflict about ") name is;
  released = λ id ttl flags a b c d name is. named_last (codes "grants the release of ") name is;
  kept = λ id ttl flags a b c d name is. named (codes "refuses the release of ") (codes ": refused by policy (RFS_ERR)") name is;
  waits = λ id ttl high low name is. named (codes "asks to wait for ") (lasting ttl) name is;
}
