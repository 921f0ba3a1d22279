-- Which names are wanted: those that are told under the tag of a name (our choice). The case of letters doesn't count, and neither does
-- the byte at the end of a name, where none is wanted.
use Rattle.std.specs.Prelude.{ℕ, ◌&&◌, ◌||◌, Bool, List, [], ◌∷◌, bytes_eq, codes, length, map, nat_eq, nat_lt, slice_index, take}
use Rattle.std.specs.List.{list_any}
use Rattle.core.specs.Char.{to_ascii_lowercase}

-- the tags under which names are told
abbrev pub name_tags : List (List ℕ)
name_tags = codes "name" ∷ codes "source" ∷ codes "destination" ∷ codes "called" ∷ codes "calling" ∷ []

-- whether names are told under this tag
abbrev pub is_of_names : List ℕ → Bool
is_of_names tag = list_any (λ one. bytes_eq one tag) name_tags

-- whether two texts are the same but for the case of their letters
abbrev pub same_letters : List ℕ → List ℕ → Bool
same_letters one other = bytes_eq (map to_ascii_lowercase one) (map to_ascii_lowercase other)

-- whether a wanted name is what stands in this one before a `<`
abbrev pub stands_before_mark : List ℕ → List ℕ → Bool
stands_before_mark wanted name =
    nat_lt (length wanted) (length name)
    && (nat_eq (slice_index name (length wanted)) 60 && same_letters wanted (take (length wanted) name))

-- means wanted name: whether a wanted name is this one, or what stands in it before a `<`
abbrev pub means : List ℕ → List ℕ → Bool
means wanted name = same_letters wanted name || stands_before_mark wanted name

-- whether a name is wanted that is told under this tag
abbrev pub is_wanted_name : List (List ℕ) → List ℕ → List ℕ → Bool
is_wanted_name wanted tag name = is_of_names tag && list_any (λ one. means one name) wanted
