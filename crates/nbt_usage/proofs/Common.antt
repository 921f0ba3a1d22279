-- The names that many proofs cite, passed on.
pub use Rattle.std.proofs.Common.{Err, List, None, Ok, OnErr, Option, Result, Some, [], ap, ap₂, arith, codes, drop, false, get_or, length, map, refl, rules, string_bytes, subst, sym, take, true, ℕ, ◌+◌, ◌++◌, ◌<◌, ◌||◌, ◌∙◌, ◌∷◌, ◌≡◌, ◌≤◌}
pub use Rattle.std.specs.List.{flat_map, fold}
pub use Rattle.std.proofs.lemmas.List.{flat_map_more, take_more}
pub use Rattle.clap.specs.Words.{with_rule}
pub use Rattle.clap.specs.Simple.{App, app_of, app_of_fields, on_top, with_subcommand}
