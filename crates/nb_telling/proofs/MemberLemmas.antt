-- An object of members is a value.
use Rattle.std.proofs.Common.{◌≡◌, ℕ, suc, ◌+◌, ◌*◌, ◌≤◌, max, List, [], ◌∷◌, ◌++◌, map, Some, None, option_and_then, refl, sym, ap, subst, ◌∙◌, arith}
use Rattle.std.proofs.lemmas.Grind.{flat_map-append}
use Rattle.std.proofs.lemmas.List.{append_assoc, append-nil}
use Rattle.std.specs.Fmt.{decimal}
use Rattle.json.specs.Token.{Token, begin_object, end_object, string}
use Rattle.json.specs.Json as json
use Rattle.json.specs.Json.{Json, Items, no_items, item, no_members, member, value, if_last, max_depth}
use Rattle.json.specs.Lex.{tokens}
use Rattle.json.specs.Print.{print}
use Rattle.json.specs.Tree.{json_tokens, items_tokens, members_tokens, depth, items_depth, members_depth}
use Rattle.json.proofs.Printed.Trees.{value-json_tokens}
use Rattle.nb_streams.specs.Hexadecimal.{digits_text}
use Rattle.nb_telling.specs.Telling.{Field, Text, Number, Digits, Data, Set, Known, Range, Words, At, Begins, Ends, Part, PartEnds, LineEnds}
use Rattle.nb_telling.specs.Members as members
use Rattle.nb_telling.specs.Members.{AreMembers, AreParts, IsMember, IsJson}
use Rattle.nb_telling.specs.Tokens.{field_tokens, tokens_of}

-- what fields add to the members or the parts after them, of which these are the tokens and the depth
record Adds {R : Type 0} (tokens_in : R → List Token) (depth_in : R → ℕ) (fields : List Field) (deep : ℕ) : Type 0 where
  pub to : R → R
  pub same : (rest : R) → tokens_of fields ++ tokens_in rest ≡ tokens_in (to rest)
  pub shallow : (rest : R) → depth_in (to rest) ≤ max deep (depth_in rest)

abbrev AddsMembers : List Field → ℕ → Type 0
AddsMembers = Adds members_tokens members_depth

abbrev AddsParts : List Field → ℕ → Type 0
AddsParts = Adds items_tokens items_depth

-- the strings of a set
abbrev strings : List (List ℕ) → Items
strings [] = no_items
strings (name ∷ names) = item (json.string name) (strings names)

strings_same : (names : List (List ℕ)) → map string names ++ Token.end_array ∷ [] ≡ items_tokens (strings names)
strings_same [] = refl
strings_same (name ∷ names) = ap (λ (ts : List Token). string name ∷ ts) (strings_same names)

strings_shallow : (names : List (List ℕ)) → items_depth (strings names) ≤ 0
strings_shallow [] = omega arith
strings_shallow (name ∷ names) = omega (arith, strings_shallow names)

-- a member that nests no value
one_member : (k : List ℕ) (j : Json) (field : Field) (deep : ℕ) → field_tokens field ≡ Token.key k ∷ json_tokens j → depth j ≤ deep
    → AddsMembers (field ∷ []) deep
one_member k j field deep is low = record {
  to = member k j;
  same = λ rest. ap (λ (ts : List Token). ts ++ members_tokens rest) (append-nil (field_tokens field) ∙ is);
  shallow = λ rest. omega (arith, low);
}

member_adds : (deep : ℕ) (field : Field) → IsMember field → AddsMembers (field ∷ []) (suc deep)
member_adds deep (Text k text) h = one_member k.name (json.string text) (Text k text) (suc deep) refl (omega arith)
member_adds deep (Number k n) h = one_member k.name (json.number (decimal n)) (Number k n) (suc deep) refl (omega arith)
member_adds deep (Digits k bytes) h = one_member k.name (json.string (digits_text bytes)) (Digits k bytes) (suc deep) refl (omega arith)
member_adds deep (Data k bytes) h = one_member k.name (json.string (digits_text bytes)) (Data k bytes) (suc deep) refl (omega arith)
member_adds deep (Set k names) h =
    one_member k.name (json.array (strings names)) (Set k names) (suc deep)
    (ap (λ (ts : List Token). Token.key k.name ∷ Token.begin_array ∷ ts) (strings_same names)) (omega (arith, strings_shallow names))
member_adds deep (Known k None) h = one_member k.name json.null (Known k None) (suc deep) refl (omega arith)
member_adds deep (Known k (Some n)) h = one_member k.name (json.number (decimal n)) (Known k (Some n)) (suc deep) refl (omega arith)
member_adds deep (Range lead from to) h = absurd h
member_adds deep (Words words) h = record { to = λ rest. rest; same = λ rest. refl; shallow = λ rest. omega arith }
member_adds deep (At n) h = one_member (97 ∷ 116 ∷ []) (json.number (decimal n)) (At n) (suc deep) refl (omega arith)
member_adds deep (Begins name) h = absurd h
member_adds deep Ends h = absurd h
member_adds deep (Part lead) h = absurd h
member_adds deep PartEnds h = absurd h
member_adds deep LineEnds h = record { to = λ rest. rest; same = λ rest. refl; shallow = λ rest. omega arith }

-- some, and then others
both : {R : Type 0} (tokens_in : R → List Token) (depth_in : R → ℕ) (xs ys : List Field) (deep : ℕ) → Adds tokens_in depth_in xs deep → Adds tokens_in depth_in ys deep
    → Adds tokens_in depth_in (xs ++ ys) deep
both tokens_in depth_in xs ys deep a b = record {
  to = λ rest. a.to (b.to rest);
  same = λ rest.
      ap (λ (ts : List Token). ts ++ tokens_in rest) (flat_map-append field_tokens xs ys)
      ∙ append_assoc (tokens_of xs) (tokens_of ys) (tokens_in rest)
      ∙ ap (λ (ts : List Token). tokens_of xs ++ ts) (b.same rest) ∙ a.same (b.to rest);
  shallow = λ rest. omega (arith, a.shallow (b.to rest), b.shallow rest);
}

-- a list of parts is a member
list_adds : (name : List ℕ) (parts : List Field) (deep : ℕ) → AddsParts parts deep → AddsMembers (Begins name ∷ (parts ++ Ends ∷ [])) (suc deep)
list_adds name parts deep p = record {
  to = member name (json.array (p.to no_items));
  same = λ rest. ap (λ (ts : List Token). Token.key name ∷ Token.begin_array ∷ ts)
      (ap (λ (ts : List Token). ts ++ members_tokens rest) (flat_map-append field_tokens parts (Ends ∷ []) ∙ p.same no_items));
  shallow = λ rest. omega (arith, p.shallow no_items);
}

-- two numbers are an item
range_adds : (lead : List ℕ) (from to deep : ℕ) → AddsParts (Range lead from to ∷ []) (suc deep)
range_adds lead from to deep = record {
  to = item (json.array (item (json.number (decimal from)) (item (json.number (decimal to)) no_items)));
  same = λ rest. refl;
  shallow = λ rest. omega arith;
}

-- members that a part has are an item
part_adds : (lead : List ℕ) (members : List Field) (deep : ℕ) → AddsMembers members deep → AddsParts (Part lead ∷ (members ++ PartEnds ∷ [])) (suc deep)
part_adds lead members deep m = record {
  to = item (json.object (m.to no_members));
  same = λ rest. ap (λ (ts : List Token). begin_object ∷ ts)
      (ap (λ (ts : List Token). ts ++ items_tokens rest) (flat_map-append field_tokens members (PartEnds ∷ []) ∙ m.same no_members));
  shallow = λ rest. omega (arith, m.shallow no_members);
}

mutual
  members_add : (d : ℕ) (fields : List Field) → AreMembers d fields → AddsMembers fields (1 + 2 * d)
  members_add d _ members.nothing = record { to = λ rest. rest; same = λ rest. refl; shallow = λ rest. omega arith }
  members_add d _ (members.member field h) =
      let deep : suc (2 * d) ≡ 1 + 2 * d = omega arith in subst (AddsMembers (field ∷ [])) deep (member_adds (2 * d) field h)
  members_add _ _ (members.list {depth = d} name parts h) =
      let deep : suc (2 + 2 * d) ≡ 1 + 2 * suc d = omega arith in
      subst (AddsMembers (Begins name ∷ (parts ++ Ends ∷ []))) deep (list_adds name parts (2 + 2 * d) (parts_add d parts h))
  members_add d _ (members.both fields others a b) =
      both members_tokens members_depth fields others (1 + 2 * d) (members_add d fields a) (members_add d others b)

  parts_add : (d : ℕ) (fields : List Field) → AreParts d fields → AddsParts fields (2 + 2 * d)
  parts_add d _ members.no_part = record { to = λ rest. rest; same = λ rest. refl; shallow = λ rest. omega arith }
  parts_add d _ (members.part lead fields h) =
      let deep : suc (1 + 2 * d) ≡ 2 + 2 * d = omega arith in
      subst (AddsParts (Part lead ∷ (fields ++ PartEnds ∷ []))) deep (part_adds lead fields (1 + 2 * d) (members_add d fields h))
  parts_add d _ (members.range lead from to) =
      let deep : suc (1 + 2 * d) ≡ 2 + 2 * d = omega arith in
      subst (AddsParts (Range lead from to ∷ [])) deep (range_adds lead from to (1 + 2 * d))
  parts_add d _ (members.words text) = record { to = λ rest. rest; same = λ rest. refl; shallow = λ rest. omega arith }
  parts_add d _ (members.parts fields others a b) =
      both items_tokens items_depth fields others (2 + 2 * d) (parts_add d fields a) (parts_add d others b)

-- the tokens of an object
abbrev object_tokens : List Field → List Token
object_tokens fields = begin_object ∷ (tokens_of fields ++ end_object ∷ [])

-- an object that is read back as its tokens is a value
pub object_value : (d : ℕ) (fields : List Field) → AreMembers d fields → d ≤ 60
    → tokens (print (object_tokens fields)) ≡ object_tokens fields → IsJson (print (object_tokens fields))
object_value d fields h low back =
    let adds = members_add d fields h in
    let j = json.object (adds.to no_members) in
    let whole : object_tokens fields ≡ json_tokens j = ap (λ (ts : List Token). begin_object ∷ ts) (adds.same no_members) in
    let shallow : depth j ≤ max_depth = omega (arith, adds.shallow no_members) in (
      j,
      ap (λ (ts : List Token). option_and_then (λ p. if_last p.0 p.1) (value max_depth ts)) (back ∙ whole ∙ sym (append-nil (json_tokens j)))
          ∙ ap (option_and_then (λ p. if_last p.0 p.1)) (value-json_tokens j max_depth [] shallow),
    )

-- the bytes that a writer of these tokens leaves, which are read back
pub object_json : (d : ℕ) (fields : List Field) (bytes : List ℕ) (ts front : List Token) → AreMembers d fields → d ≤ 60
    → front ≡ begin_object ∷ tokens_of fields → ts ≡ front ++ end_object ∷ [] → bytes ≡ print ts → tokens (print ts) ≡ ts → IsJson bytes
object_json d fields bytes ts front h low same ended is back =
    let whole : ts ≡ object_tokens fields = ended ∙ ap (λ (us : List Token). us ++ end_object ∷ []) same in
    subst IsJson (sym (is ∙ ap print whole)) (object_value d fields h low (ap (λ (us : List Token). tokens (print us)) (sym whole) ∙ back ∙ whole))
