use Rattle.std.proofs.Common.{◌∷◌, [], ◌++◌, codes}
use Rattle.nb_text.proofs.SaidLemmas.{held, query_said, refresh_said, registration_said, release_said, status_said}
use Rattle.nb_streams.specs.Addresses.{address_text}
use Rattle.nb_text.specs.Sentences.{lasting}
use Rattle.nb_text.proofs.laws.phrases.requests_in_words.Goals as goal

pub returns : goal.returns
returns c = record {
  queries = query_said;
  statuses = status_said;
  registrations = registration_said;
  overwrites = λ id ttl flags a b c d name is low. held (codes "overwrites ") _ _ (address_text (a ∷ b ∷ c ∷ d ∷ []) ++ lasting ttl) name flags is low;
  several = λ id ttl flags a b c d name is low. held (codes "claims as one of several addresses ") _ _ (address_text (a ∷ b ∷ c ∷ d ∷ []) ++ lasting ttl) name flags is low;
  refreshes = refresh_said;
  releases = release_said;
}
