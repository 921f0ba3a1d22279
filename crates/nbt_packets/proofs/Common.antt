-- The names that many proofs cite, passed on.
pub use Rattle.std.proofs.Common.{Err, IfErr, List, None, Ok, OnOk, Option, Result, Some, [], ap, append_assoc, ap₂, arith, codes, false, map, refl, string_bytes, subst, sym, true, ℕ, ◌++◌, ◌+◌, ◌∙◌, ◌∷◌, ◌≡◌}
pub use Rattle.std.proofs.lemmas.Result.{IfOk-weaker, MatchResult-weaker, err_from_is_err_and, on_ok_weaker}
pub use Rattle.std.specs.Prelude.{option_map, unwrap_or}
pub use Rattle.nb_streams.specs.DeviceFacts.{Keeps-same}
pub use Rattle.nb_capture.specs.declared.line.Line.TheVariants.{Packet, Tick}
pub use Rattle.std.specs.Fmt.{decimal}
pub use Rattle.nbt_command.specs.declared.fault.Fault.{Fault}
pub use Rattle.nbt_command.specs.declared.fault.Fault.TheVariants.{Memory, Write}
