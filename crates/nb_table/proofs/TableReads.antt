-- What reads of a table answer, and a table without a key.
use Rattle.nb_table.proofs.Common.{◌≡◌, ◌↔◌, Bool, true, false, cond, not, IsTrue, Option, Some, None, is_some, sym, ◌∙◌, ap, subst, arith, ◌&&◌, List, Decides, none-some, same_Some, Key, same_key, key_cmp_total, Held, Spoilt as Clashed, EntryValue, Contents, TableValue, KeepsLimits, pointwise, pointwise_decides}
use Rattle.std.specs.FinMap as maps
use Rattle.nb_entries.specs.declared.outline.State.{State}
use Rattle.nb_entries.specs.declared.outline.State.TheVariants.{Absent, Partial, Whole, Spoilt}
use Rattle.nb_entries.specs.Equal.{same_entry}
use Rattle.nb_table.specs.State.{IsState}
use Rattle.nb_entries.specs.EntryState.{IsEntryState}
use Rattle.nb_entries.specs.Shared.EqualLemmas.{entry_decides}
use Rattle.nb_table.proofs.Limits.GroupLemmas.{few_remove, fewer}
use Rattle.std.proofs.lemmas.Bool.Decides.{Decides-and}
use Rattle.nb_datagram.specs.Equality.{key_eq}
use Rattle.nb_datagram.specs.EqualityFacts.{key_eq_decides}

-- the state of an entry is that of its key
pub state_at : (t : Contents) (k : Key) (e : EntryValue) (s : State) → maps.get t k ≡ Some e → IsEntryState e s → IsState t k s
state_at t k Clashed s at h = subst (IsState t k) (sym h) at
state_at t k (Held e) Absent at h = absurd h
state_at t k (Held e) Partial at h = record { facts = e; at = at; not_whole = h }
state_at t k (Held e) Whole at h = (Held e, at, h)
state_at t k (Held e) Spoilt at h = absurd h

cut : (b : Bool) (o : Option EntryValue) (e : EntryValue) → cond b None o ≡ Some e → o ≡ Some e
cut true o e h = absurd (cc)
cut false o e h = h

-- without a key the table keeps to its limits
pub remove_keeps : (t : TableValue) (k : Key) → KeepsLimits t → KeepsLimits (record { contents = maps.remove t.contents k; limits = t.limits })
remove_keeps t k keeps = record {
  count = (let most = keeps.count in let less = fewer (maps.contains_key t.contents k) (maps.len (maps.remove t.contents k)) (maps.len t.contents) (maps.len-remove key_cmp_total t.contents k) in omega (arith, most, less));
  sources = few_remove t.limits.per_source t.contents k keeps.sources;
  short = λ q e h. keeps.short q e (cut (same_key q k) (maps.get t.contents q) e (sym (maps.get-remove key_cmp_total t.contents k q) ∙ h));
  formed = λ q e h. keeps.formed q e (cut (same_key q k) (maps.get t.contents q) e (sym (maps.get-remove key_cmp_total t.contents k q) ∙ h));
}

-- ---- one key of two tables

pub both_held : (a b : Option EntryValue) (x y : EntryValue) (r : Bool) → a ≡ Some x → b ≡ Some y → r ≡ same_entry x y → IsTrue r ↔ (a ≡ b)
both_held a b x y r at there is = (
  λ h. at ∙ ap Some ((entry_decides x y).0 (sym is ∙ h)) ∙ sym there,
  λ e. is ∙ (entry_decides x y).1 (same_Some x y (sym at ∙ e ∙ there)),
)

pub one_held : (a b : Option EntryValue) (x : EntryValue) → a ≡ Some x → b ≡ None → IsTrue false ↔ (a ≡ b)
one_held a b x at none = (λ h. absurd (cc h), λ e. absurd (none-some x (sym none ∙ sym e ∙ at)))

pub none_held : (a b : Option EntryValue) (r : Bool) → a ≡ None → r ≡ is_some b → IsTrue (not r) ↔ (a ≡ b)
none_held a b r none is = (from b r is, λ e. ap not (is ∙ ap is_some (sym e ∙ none)))
  where
    from : (b : Option EntryValue) (r : Bool) → r ≡ is_some b → IsTrue (not r) → a ≡ b
    from None r is h = none
    from (Some y) r is h = let clash = sym (ap not is) ∙ h in absurd (cc clash)

-- ---- The items of two tables of entries are the same where a test of each says so.

item_decides : (p q : Key × EntryValue) → Decides (key_eq p.0 q.0 && same_entry p.1 q.1) (p ≡ q)
item_decides p q =
    let d = Decides-and _ _ (key_eq_decides p.0 q.0) (entry_decides p.1 q.1) in (
      λ h. let e = d.0 h in λ i. (e.0 i, e.1 i),
      λ e. d.1 (ap (λ (x : Key × EntryValue). x.0) e, ap (λ (x : Key × EntryValue). x.1) e),
    )

pub entries_decide : (es fs : List (Key × EntryValue)) → Decides (pointwise (λ p q. key_eq p.0 q.0 && same_entry p.1 q.1) es fs) (es ≡ fs)
entries_decide = pointwise_decides item_decides
