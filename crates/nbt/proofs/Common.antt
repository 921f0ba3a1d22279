-- The names that many proofs cite, passed on.
pub use Rattle.std.proofs.Common.{Bool, Bor, Err, IfSome, List, None, Ok, OnErr, Option, Result, Some, [], ap, ap₂, arith, codes, drop, false, get_or, inl, inr, length, map, refl, rules, string_bytes, subst, sym, take, true, true≢false, ℕ, ◌++◌, ◌+◌, ◌<◌, ◌||◌, ◌∙◌, ◌∷◌, ◌≡◌, ◌≢◌, ◌≤◌, ◌⊎◌}
pub use Rattle.std.specs.Prelude.{Box, option_map, ◌==◌}
pub use Rattle.std.specs.List.{flat_map, fold}
pub use Rattle.nb_streams.specs.DeviceFacts.{Keeps-same}
pub use Rattle.std.specs.Io.KnownBytes.{Keeps}
pub use Rattle.clap.specs.Words.{HasMatchesOf, Text, found_of, is_simple, kind_of, rows_of, subcommand_name_of, subcommand_of, subcommand_rows_of, takes, with_rule}
pub use Rattle.clap.specs.Simple.{App, app_of, app_of_fields, on_top, subcommand_rows, with_subcommand}
pub use Rattle.clap.specs.declared.parser.matches.ArgMatches.{ArgMatches}
pub use Rattle.nb_streams.specs.Counted.{CountedOf, Counts, no_calls}
pub use Rattle.std.proofs.lemmas.List.{flat_map_more, take_more}
pub use Rattle.nbt_command.specs.declared.fault.Fault.{Fault}
pub use Rattle.nbt_command.specs.declared.fault.Status.{Status}
pub use Rattle.nbt_command.specs.declared.fault.Status.TheVariants.{BadUsage, Done, Failed, Refused}
