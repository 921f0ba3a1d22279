-- The names that many proofs cite, passed on.
pub use Rattle.std.proofs.Common.{Err, List, Ok, Option, Result, [], arith, codes, drop, length, refl, rules, subst, sym, take, ℕ, ◌++◌, ◌+◌, ◌∷◌, ◌≡◌, ◌≤◌}
pub use Rattle.std.proofs.lemmas.Result.{err_from_is_err_and}
pub use Rattle.nb_streams.specs.DeviceFacts.{Appends-kept, Appends-more, Appends-nil, fails_from, grows_on}
pub use Rattle.std.specs.Io.KnownBytes.{Appends, Consumes}
pub use Rattle.nb_capture.specs.declared.line.Line.TheVariants.{Packet, Tick}
pub use Rattle.nb_streams.specs.Devices.{GrowTo, ShowsUnread, ShowsWriteFault}
pub use Rattle.nb_streams.specs.Counted.{CountedOf, Counts}
pub use Rattle.std.proofs.lemmas.List.{take-append-drop}
pub use Rattle.std.specs.Str.Parse.{ExplainsUnsignedError, HasUnsignedDigitsIfOk, ParsesUnsigned}
pub use Rattle.nbt_command.specs.declared.fault.Fault.{Fault}
pub use Rattle.nbt_command.specs.declared.fault.Fault.TheVariants.{Memory, Read, Write}
