-- What a packet of port 137 says of which names at which addresses, where it is looked at alone (RFC 1002 sections 4.2.2 to
-- 4.2.18). The wildcard `*` is no name.
use Rattle.std.specs.Prelude.{ℕ, ◌==◌, ◌&&◌, ◌||◌, Bool, true, false, not, List, [], ◌∷◌, ◌++◌, map, filter, Option, Some, None, bytes_eq, codes, length, slice_get, if◌then◌else◌}
use Rattle.std.specs.declared.net.ip_addr.IpAddr.{IpAddr}
use Rattle.std.specs.declared.net.ip_addr.IpAddr.TheVariants.{V4}
use Rattle.nb_service.specs.Header.{opcode_of, rcode_of}
use Rattle.nb_service.specs.declared.views.AddressEntry.{AddressEntry}
use Rattle.nb_survey.specs.declared.heard.Heard.{Heard}
use Rattle.nb_survey.specs.declared.heard.Listed.{Listed}
use Rattle.nb_survey.specs.declared.heard.Said.{Said}
use Rattle.nb_survey.specs.declared.word.Asking.{Asking}
use Rattle.nb_survey.specs.declared.word.Word.{Word}
use Rattle.nb_survey.specs.declared.word.Word.TheVariants.{Granted, AsksHolder, Released, Answers, SaidToHaveIt, Lists, ListsInConflict, ListsInactive}
use Rattle.nb_survey.specs.Places.{same_address}
use Rattle.nb_survey.specs.Words.{asking_of, has, tells_group, word_of}

-- ---- names

-- is_star label: the letters of `*` and fifteen zero bytes, or of `*`, fourteen spaces and a zero byte
abbrev pub is_star : Option (List ℕ) → Bool
is_star None = false
is_star (Some label) = bytes_eq label (codes "CKAAAAAAAAAAAAAAAAAAAAAAAAAAAAAA") || bytes_eq label (codes "CKCACACACACACACACACACACACACACAAA")

-- a name is the wildcard, of any scope
abbrev pub is_wildcard : List (List ℕ) → Bool
is_wildcard name = is_star (slice_get name 0)

-- something is said of a name
abbrev pub is_of_a_name : Said → Bool
is_of_a_name said = not (is_wildcard said.place.name)

-- the address of an entry
abbrev pub address_of : AddressEntry → IpAddr
address_of entry = V4 (record { octets = entry.address })

-- ---- words

-- said_at heard name address word group: the packet says this word of the name at the address
abbrev pub said_at : Heard → List (List ℕ) → IpAddr → Word → Option Bool → Said
said_at heard name address word group =
    record { place = record { name = name; address = address }; word = word; group = group; facts = heard.facts }

-- word_from word address source: who answers says it of its own address, and of another that it is said to have the name
abbrev pub word_from : Word → IpAddr → IpAddr → Word
word_from Answers address source = if same_address address source then Answers else SaidToHaveIt
word_from word address source = word

-- whether the name is a group's, by the bit G of NB_FLAGS, where the word tells it
abbrev pub group_told : Word → ℕ → Option Bool
group_told word flags = if tells_group word then Some (has flags 0x8000) else None

-- of_entry heard name word entry: what the packet says of the address of an entry
abbrev pub of_entry : Heard → List (List ℕ) → Word → AddressEntry → Said
of_entry heard name word entry =
    let said = word_from word (address_of entry) heard.facts.frame.source in
    said_at heard name (address_of entry) said (group_told said entry.flags)

-- what it says of the addresses in its record
abbrev pub of_record : Heard → List (List ℕ) → Word → List Said
of_record heard name word = map (of_entry heard name word) heard.entries.items

-- what it says of its sender
abbrev pub of_sender : Heard → List (List ℕ) → Word → Said
of_sender heard name word = said_at heard name heard.facts.frame.source word None

-- what it says of where it goes
abbrev pub of_target : Heard → List (List ℕ) → Word → Said
of_target heard name word = said_at heard name heard.facts.frame.target word None

-- the word for a name of a node status, by NAME_FLAGS: CNF 0800, ACT 0400
abbrev pub listed_word : ℕ → Word
listed_word flags = if has flags 0x800 then ListsInConflict else if has flags 0x400 then Lists else ListsInactive

-- what a node status says of one of its names
abbrev pub of_listed : Heard → Listed → Said
of_listed heard listed = said_at heard listed.name heard.facts.frame.source (listed_word listed.flags) (Some (has listed.flags 0x8000))

-- ---- packets

-- a response has addresses in its record that it is about: one of RCODE 0, but a wait acknowledgement
abbrev pub is_of_record : Word → Bool
is_of_record Granted = true
is_of_record AsksHolder = true
is_of_record Released = true
is_of_record _ = false

-- asks_or_tells asks heard name word: a request is about the addresses in its record, or else about its sender; a response about
-- those, or where it has none about where it goes
abbrev pub asks_or_tells : Option Asking → Heard → List (List ℕ) → Word → List Said
asks_or_tells (Some asking) heard name word = if length heard.entries.items == 0 then of_sender heard name word ∷ [] else of_record heard name word
asks_or_tells None heard name word = if is_of_record word then of_record heard name word else of_target heard name word ∷ []

-- a flag word is that of a positive response to a query: R, OPCODE 0, RCODE 0
abbrev pub is_positive : ℕ → Bool
is_positive flags = has flags 0x8000 && (opcode_of flags == 0 && rcode_of flags == 0)

-- worded heard name word: what a packet says that has this word, or none by its flag word
abbrev pub worded : Heard → List (List ℕ) → Option Word → List Said
worded heard name (Some word) = asks_or_tells (asking_of word) heard name word
worded heard name None = if is_positive heard.flags then of_record heard name Answers ++ map (of_listed heard) heard.listed.items else []

-- what a packet says of its name, and of those that it lists
abbrev pub of_name : Heard → Option (List (List ℕ)) → List Said
of_name heard None = []
of_name heard (Some name) = worded heard name (word_of heard.flags)

-- what a packet says
abbrev pub sayings : Heard → List Said
sayings heard = filter is_of_a_name (of_name heard heard.name)
