-- What `nbt agree --list` prints of two tables that differ (our choice): of each key at which they do, ascending, a line
-- of each table.
use Rattle.std.specs.Prelude.{ℕ, Bool, not, List, [], ◌∷◌, ◌++◌, codes, filter, Option, None, Some}
use Rattle.std.specs.Option.{option_eq}
use Rattle.std.specs.FinMap as maps
use Rattle.nb_datagram.specs.declared.key.Key.{Key}
use Rattle.nb_table.specs.Contents.{Contents}
use Rattle.nb_entries.specs.Entry.{EntryValue}
use Rattle.nb_entries.specs.Equal.{same_entry}
use Rattle.nb_table.specs.Join.{join}
use Rattle.nb_member.specs.Listing.{key_line}
use Rattle.nbt_command.specs.Printing.{line}

-- differ_at t u k: the tables t and u differ at the key k, as a test: one of them alone holds it, or their entries aren't
-- equal
abbrev pub differ_at : Contents → Contents → Key → Bool
differ_at t u k = not (option_eq same_entry (maps.get t k) (maps.get u k))

-- the keys at which they differ, ascending
abbrev pub differing : Contents → Contents → List Key
differing t u = filter (differ_at t u) (maps.keys (join t u))

-- the line that `nbt list` prints of a key with this entry in the table t, or that t doesn't hold it
abbrev pub line_where : Contents → Key → Option EntryValue → List ℕ
line_where t k None = line (codes "absent")
line_where t k (Some e) = key_line t k

-- two_lines t u k: the lines of the key k: that of the table t after `1 `, that of u after `2 `
abbrev pub two_lines : Contents → Contents → Key → List ℕ
two_lines t u k =
    codes "1 " ++ (line_where t k (maps.get t k) ++ (codes "2 " ++ line_where u k (maps.get u k)))

-- the lines of these keys, in order
abbrev pub lines_of_keys : Contents → Contents → List Key → List ℕ
lines_of_keys t u [] = []
lines_of_keys t u (k ∷ ks) = two_lines t u k ++ lines_of_keys t u ks

-- the lines of the keys at which two tables differ
abbrev pub differences : Contents → Contents → List ℕ
differences t u = lines_of_keys t u (differing t u)
