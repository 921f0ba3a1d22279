-- The values of tables as values of types whose codes are known, for models.
use Rattle.std.specs.Prelude.{ℕ, refl}
use Rattle.std.specs.FinMap as maps
use Rattle.std.specs.Coded.{Coded, code_by, coded×, coded_ℕ}
use Rattle.nb_datagram.specs.Key.{key_code}
use Rattle.nb_table.specs.Contents.{Contents}
use Rattle.nb_table.specs.Limits.{TableValue}
use Rattle.nb_entries.specs.Codes.{entry_code}

-- a table as the list of its keys and entries
abbrev pub contents_code : Coded Contents
contents_code = maps.code key_code entry_code

-- a table as the tuple of its contents and limits
abbrev pub table_code : Coded TableValue
table_code =
    code_by (Contents × (ℕ × (ℕ × ℕ))) (coded× contents_code (coded× coded_ℕ (coded× coded_ℕ coded_ℕ)))
    (λ t. (t.contents, (t.limits.keys, (t.limits.per_source, t.limits.longest))))
    (λ p. record { contents = p.0; limits = record { keys = p.1.0; per_source = p.1.1.0; longest = p.1.1.1 } })
    (λ _. refl)
