-- What a fragment of IP brings, by what is made of it.
use Rattle.std.proofs.Common.{ℕ, ◌≡◌, ◌∙◌, ap, sym, subst, List, length, Option, Result, Ok}
use Rattle.nb_streams.specs.declared.bytes.NoMemory.{NoMemory}
use Rattle.nb_fragments.specs.Code.Kept.{IsFull, Waits, clock_of, lost_at}
use Rattle.nb_fragments.specs.Keys.{key_of}
use Rattle.nb_fragments.specs.Live.{Came, clock_after, live_at}
use Rattle.nb_fragments.specs.Taking.{Answers, came_now, live_after}
use Rattle.nb_fragments.specs.declared.taken.Refusal.TheVariants.{TooMany}
use Rattle.nb_fragments.specs.declared.taken.Taken.{Taken}
use Rattle.nb_fragments.specs.declared.taken.Taken.TheVariants.{LeftOut}
use Rattle.nb_frames.specs.declared.carried.Carried.TheVariants.{Fragment}
use Rattle.nb_frames.specs.declared.carried.IpFragment.{IpFragment}
use Rattle.nb_traffic.specs.Brings.{BringsCarried, BringsMade}
use Rattle.nb_traffic.specs.Brought.{BroughtValue}
use Rattle.nb_traffic.specs.declared.traffic.Traffic.{Traffic}

pub brings_by : (old new : Traffic) (f : IpFragment) (time : Option ℕ) (taken made : Taken) (r : Result Taken NoMemory) (brought : BroughtValue) → r ≡ Ok taken
    → clock_of new.fragments ≡ clock_after (clock_of old.fragments) time
    → ((live : List Came) → Waits old.fragments live → Waits new.fragments (live_after taken (came_now (clock_of new.fragments) f) (live_at (clock_of new.fragments) live)))
    → ((live : List Came) → Waits old.fragments live → Answers f (came_now (clock_of new.fragments) f) (live_at (clock_of new.fragments) live) taken)
    → (r ≡ Ok (LeftOut TooMany) → IsFull new.fragments (key_of f) (length f.payload.bytes)) → new.fragments.lost ≡ lost_at old.fragments (clock_of new.fragments)
    → taken ≡ made → BringsMade made f old.connections brought new.connections → BringsCarried (Fragment f) time old brought new
brings_by old new f time taken made r brought is clock live answer full lost same brings = (
  taken,
  record { clock = clock; live = live; answer = answer; full = λ left. full (is ∙ ap Ok left); lost = lost },
  subst (λ (t : Taken). BringsMade t f old.connections brought new.connections) (sym same) brings,
)
