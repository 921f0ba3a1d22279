-- Entries agree where kinds and names are the same and covers agree, and their union is one in the sense
-- of SlotLemmas.
use Rattle.std.proofs.Common.{◌≡◌, true, refl, sym, ◌∙◌}
use Rattle.nb_entries.specs.Maps.{Spoilt, Held, OnHeld}
use Rattle.nb_entries.specs.Cover.{CoverValue, covers_agree, join_cover, IsCover}
use Rattle.nb_entries.specs.Entry.{EntryFacts, FactsFit, EntryValue, facts_agree, facts_together, join_entry, AreEntryFacts, IsEntry}
use Rattle.nb_names.specs.NameFacts.{name_eq_decides}
use Rattle.std.proofs.lemmas.Bool.{and_from, and_parts}
use Rattle.nb_datagram.specs.EqualityFacts.{same_kind_decides}
use Rattle.nb_entries.specs.Shared.SlotLemmas.{Unites, join-comm, join-assoc, join-idem, join_formed}
use Rattle.nb_entries.specs.Shared.CoverLemmas.{covers_unite, fit_of, agree_of, fit_left, fit_right, fit_both, fit_turned, formed_agrees, agrees_formed}

pub facts_fit_of : (a b : EntryFacts) → facts_agree a b ≡ true → FactsFit a b
facts_fit_of a b h =
    let t1 = (and_parts _ _ h).1 in let t2 = (and_parts _ _ t1).1 in
    record {
      kind = (same_kind_decides a.kind b.kind).0 (and_parts _ _ h).0;
      source = (name_eq_decides a.source b.source).0 (and_parts _ _ t1).0;
      destination = (name_eq_decides a.destination b.destination).0 (and_parts _ _ t2).0;
      cover = fit_of a.cover b.cover (and_parts _ _ t2).1;
    }

pub facts_agree_of : (a b : EntryFacts) → FactsFit a b → facts_agree a b ≡ true
facts_agree_of a b f =
    and_from _ _ ((same_kind_decides a.kind b.kind).1 f.kind)
    (and_from _ _ ((name_eq_decides a.source b.source).1 f.source)
    (and_from _ _ ((name_eq_decides a.destination b.destination).1 f.destination) (agree_of a.cover b.cover f.cover)))

turned : (a b : EntryFacts) → FactsFit a b → FactsFit b a
turned a b f = record {
  kind = sym f.kind;
  source = sym f.source;
  destination = sym f.destination;
  cover = fit_turned a.cover b.cover f.cover;
}

left : (a b c : EntryFacts) → FactsFit a b → FactsFit (facts_together a b) c → FactsFit a c
left a b c ab f = record {
  kind = f.kind;
  source = f.source;
  destination = f.destination;
  cover = fit_left a.cover b.cover c.cover f.cover;
}

right : (a b c : EntryFacts) → FactsFit a b → FactsFit (facts_together a b) c → FactsFit b c
right a b c ab f = record {
  kind = sym ab.kind ∙ f.kind;
  source = sym ab.source ∙ f.source;
  destination = sym ab.destination ∙ f.destination;
  cover = fit_right a.cover b.cover c.cover ab.cover f.cover;
}

both : (a b c : EntryFacts) → FactsFit a c → FactsFit b c → FactsFit (facts_together a b) c
both a b c ac bc = record {
  kind = ac.kind;
  source = ac.source;
  destination = ac.destination;
  cover = fit_both a.cover b.cover c.cover ac.cover bc.cover;
}

same : (a b : EntryFacts) → FactsFit a b → facts_together a b ≡ facts_together b a
same a b f =
    let cover = covers_unite.same a.cover b.cover (agree_of a.cover b.cover f.cover) in
    λ i. record { kind = f.kind i; source = f.source i; destination = f.destination i; cover = cover i }

pub facts_unite : Unites facts_agree facts_together
facts_unite = record {
  turned = λ a b h. facts_agree_of b a (turned a b (facts_fit_of a b h));
  same = λ a b h. same a b (facts_fit_of a b h);
  regroup = λ a b c. λ i. record { kind = a.kind; source = a.source; destination = a.destination; cover = covers_unite.regroup a.cover b.cover c.cover i };
  once = λ a. λ i. record { kind = a.kind; source = a.source; destination = a.destination; cover = covers_unite.once a.cover i };
  left = λ a b c ab h. facts_agree_of a c (left a b c (facts_fit_of a b ab) (facts_fit_of _ _ h));
  right = λ a b c ab h. facts_agree_of b c (right a b c (facts_fit_of a b ab) (facts_fit_of _ _ h));
  both = λ a b c ac bc. facts_agree_of _ _ (both a b c (facts_fit_of a c ac) (facts_fit_of b c bc));
}

-- ---- well formed is to agree with oneself

pub entry_agrees : (a : EntryFacts) → AreEntryFacts a → facts_agree a a ≡ true
entry_agrees a h = facts_agree_of a a (record { kind = refl; source = refl; destination = refl; cover = fit_of a.cover a.cover (formed_agrees a.cover h) })

pub agrees_entry : (a : EntryFacts) → facts_agree a a ≡ true → AreEntryFacts a
agrees_entry a h = (facts_fit_of a a h).cover.own_below

entry_slot : (e : EntryValue) → IsEntry e → OnHeld (λ a. facts_agree a a ≡ true) e
entry_slot Spoilt f = tt
entry_slot (Held a) f = entry_agrees a f

slot_entry : (e : EntryValue) → OnHeld (λ a. facts_agree a a ≡ true) e → IsEntry e
slot_entry Spoilt f = tt
slot_entry (Held a) f = agrees_entry a f

cover_slot : (c : CoverValue) → IsCover c → OnHeld (λ a. covers_agree a a ≡ true) c
cover_slot Spoilt f = tt
cover_slot (Held a) f = formed_agrees a f

slot_cover : (c : CoverValue) → OnHeld (λ a. covers_agree a a ≡ true) c → IsCover c
slot_cover Spoilt f = tt
slot_cover (Held a) f = agrees_formed a f

-- ---- the laws of joins of covers and entries

pub join_cover_formed : (a b : CoverValue) → IsCover a → IsCover b → IsCover (join_cover a b)
join_cover_formed a b f g = slot_cover _ (join_formed covers_unite a b (cover_slot a f) (cover_slot b g))

pub join_entry-comm : (a b : EntryValue) → join_entry a b ≡ join_entry b a
join_entry-comm = join-comm facts_unite

pub join_entry-assoc : (a b c : EntryValue) → join_entry (join_entry a b) c ≡ join_entry a (join_entry b c)
join_entry-assoc = join-assoc facts_unite

pub join_entry-idem : (a : EntryValue) → IsEntry a → join_entry a a ≡ a
join_entry-idem a f = join-idem facts_unite a (entry_slot a f)

pub join_entry_formed : (a b : EntryValue) → IsEntry a → IsEntry b → IsEntry (join_entry a b)
join_entry_formed a b f g = slot_entry _ (join_formed facts_unite a b (entry_slot a f) (entry_slot b g))
