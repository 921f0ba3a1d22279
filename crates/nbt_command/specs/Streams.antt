-- The streams of a command, before it and after it.
use Rattle.std.specs.Prelude.{◌≡◌, ℕ, List, Option, Result, IfErr}
use Rattle.nb_streams.specs.Counted.{Counts, CountedOf}
use Rattle.nb_streams.specs.Devices.{ShowsWriteFault}
use Rattle.nbt_command.specs.declared.fault.Fault.{Fault}
use Rattle.nbt_command.specs.declared.fault.Fault.TheVariants.{Write}

-- the input and the output of a command, before it and after it: the bytes that are left or printed, where they are known, and
-- the counts of the calls
pub record Streams : Type 0 where
  pub old_in : Option (List ℕ)
  pub new_in : Option (List ℕ)
  pub reads : Counts
  pub reads_after : Counts
  pub old_out : Option (List ℕ)
  pub new_out : Option (List ℕ)
  pub writes : Counts
  pub writes_after : Counts

-- those of these devices, where I says what an input has left, and O what an output has
abbrev pub streams : {R W : Type 0} → (R → Option (List ℕ)) → (W → Option (List ℕ)) → CountedOf R → CountedOf R → CountedOf W → CountedOf W → Streams
streams I O i j o p = record {
  old_in = I i.inner;
  new_in = I j.inner;
  reads = i.counts;
  reads_after = j.counts;
  old_out = O o.inner;
  new_out = O p.inner;
  writes = o.counts;
  writes_after = p.counts;
}

-- a write is at fault only where the calls of the output show it
abbrev pub WritesShow : {A : Type 0} → Streams → Result A Fault → Type 0
WritesShow s result = IfErr result (λ fault. fault ≡ Write → ShowsWriteFault s.writes s.writes_after)
