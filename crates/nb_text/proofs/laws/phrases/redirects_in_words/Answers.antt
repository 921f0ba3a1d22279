use Rattle.std.proofs.Common.{◌∷◌, [], ◌++◌, codes}
use Rattle.nb_streams.specs.Addresses.{address_text}
use Rattle.nb_names.specs.NameText.{labels_written}
use Rattle.nb_text.proofs.SaidLemmas.{named}
use Rattle.nb_text.proofs.laws.phrases.redirects_in_words.Goals as goal

pub returns : goal.returns
returns law id ttl other a b c d name server is =
    named (codes "answers: ") (codes " is known to " ++ (labels_written server ++ (codes " at " ++ address_text (a ∷ b ∷ c ∷ d ∷ [])))) name is
