-- From where and to where a packet goes, as a line has it (our choice). A port is shown where it isn't the service's own, and an
-- interface where it isn't that of the first line.
use Rattle.std.specs.Prelude.{ℕ, Bool, ◌&&◌, List, [], ◌∷◌, ◌++◌, codes, flat_map, cond, nat_eq, nat_le, bytes_eq, Option, Some, None}
use Rattle.std.specs.Fmt.{decimal}
use Rattle.std.specs.Net.Text.{ip_text}
use Rattle.std.specs.declared.net.ip_addr.IpAddr.{IpAddr}
use Rattle.std.specs.declared.net.ip_addr.IpAddr.TheVariants.{V4, V6}
use Rattle.nb_streams.specs.Hexadecimal.{digits_of}

-- an address, with its port behind it
abbrev pub with_port : IpAddr → ℕ → List ℕ
with_port (V4 a) port = ip_text (V4 a) ++ (codes ":" ++ decimal port)
with_port (V6 a) port = codes "[" ++ (ip_text (V6 a) ++ (codes "]:" ++ decimal port))

-- end_text address port service: an end of a packet of this service
abbrev pub end_text : IpAddr → ℕ → ℕ → List ℕ
end_text address port service = cond (nat_eq port service) (ip_text address) (with_port address port)

-- whether a byte of a name is printed as it stands: that of ASCII which shows
abbrev pub is_shown : ℕ → Bool
is_shown byte = nat_le 32 byte && nat_le byte 126

-- a byte of a name: `\x` and two digits where it doesn't show
abbrev pub shown_byte : ℕ → List ℕ
shown_byte byte = cond (is_shown byte) (byte ∷ []) (codes "\\x" ++ digits_of byte)

-- whether this is no name of an interface: it is empty, or the word for one that has none
abbrev pub is_no_name : List ℕ → Bool
is_no_name name = cond (bytes_eq name []) (bytes_eq name []) (bytes_eq name (codes "unknown"))

-- label_of number name: what an interface is called, by its name or else its number in the file
abbrev pub label_of : ℕ → Option (List ℕ) → List ℕ
label_of number None = decimal number
label_of number (Some name) = cond (is_no_name name) (decimal number) (flat_map shown_byte name)

-- what the interface of the first line is called, once a line of this one came
abbrev pub first_label : Option (List ℕ) → List ℕ → List ℕ
first_label None label = label
first_label (Some first) label = first

-- mark_text first label: an interface, where it isn't that of the first line
abbrev pub mark_text : List ℕ → List ℕ → List ℕ
mark_text first label = cond (bytes_eq first label) [] (codes "%" ++ label)

-- mark_in interface label: an interface, where it isn't that of the first line; before that there is none
abbrev pub mark_in : Option (List ℕ) → List ℕ → List ℕ
mark_in None label = []
mark_in (Some first) label = mark_text first label
