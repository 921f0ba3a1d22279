-- The lemmas of which the laws of joins and of agreement are made.
use Rattle.nb_entries.proofs.Common.{◌≡◌, ◌∙◌, ap, sym, Decides, Held, CoverValue, join_cover, IsCover, PieceParts, piece_cover, piece_formed, EntryFacts, FactsFit, facts_agree, covers_unite, formed_agrees, facts_fit_of, facts_agree_of, join_entry-comm, join_entry-assoc, join_entry-idem}
use Rattle.nb_entries.specs.CoverChange.{with_piece}
use Rattle.nb_entries.specs.Shared.SlotLemmas.{join-comm, join-assoc, idem_formed}

pub facts_agree_decides : (a b : EntryFacts) → Decides (facts_agree a b) (FactsFit a b)
facts_agree_decides a b = (facts_fit_of a b, facts_agree_of a b)

pub join_cover-comm : (a b : CoverValue) → join_cover a b ≡ join_cover b a
join_cover-comm = join-comm covers_unite

pub join_cover-assoc : (a b c : CoverValue) → join_cover (join_cover a b) c ≡ join_cover a (join_cover b c)
join_cover-assoc = join-assoc covers_unite

pub join_cover-idem : (a : CoverValue) → IsCover a → join_cover a a ≡ a
join_cover-idem = idem_formed covers_unite formed_agrees

-- ---- covers of pieces

pub pieces_turned : (c : CoverValue) (p q : PieceParts) → with_piece (with_piece c p) q ≡ with_piece (with_piece c q) p
pieces_turned c p q =
    let a : CoverValue = Held (piece_cover p) in let b : CoverValue = Held (piece_cover q) in
    join_cover-assoc c a b ∙ ap (join_cover c) (join_cover-comm a b) ∙ sym (join_cover-assoc c b a)

pub piece_again : (c : CoverValue) (p : PieceParts) → with_piece (with_piece c p) p ≡ with_piece c p
piece_again c p =
    let a : CoverValue = Held (piece_cover p) in
    join_cover-assoc c a a ∙ ap (join_cover c) (join_cover-idem a (piece_formed p))

pub ruleset laws = (facts_agree_decides, join_cover-comm, join_cover-assoc, join_cover-idem, join_entry-comm, join_entry-assoc, join_entry-idem)
