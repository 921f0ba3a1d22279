-- What is answered of a name that is judged and not made (RFC 1002 section 4.1; what is answered is our choice).
use Rattle.std.specs.Prelude.{◌≡◌, ℕ, ◌+◌, List, [], ◌∷◌, length}
use Rattle.nb_names.specs.declared.reading.Pointers.{Pointers}
use Rattle.nb_names.specs.declared.reading.Skipped.{Skipped}
use Rattle.nb_names.specs.DomainName.{spelling}
use Rattle.nb_streams.specs.Places.{StandsAt}
use Rattle.nb_names.specs.Labels.{NameAt}
use Rattle.nb_names.specs.NameFaults.{OnWay}

-- IsSkipped packet pointers at labels skipped: at this offset a name stands, with these labels, and this is where. The
-- reading of it ends at the zero byte at `here`, in the stretch that began at `skipped.stretch`
pub record IsSkipped (packet : List ℕ) (pointers : Pointers) (at : ℕ) (labels : List (List ℕ)) (skipped : Skipped) : Type 0 where
  pub here : ℕ
  pub name : NameAt packet pointers at labels skipped.next
  pub long : skipped.spelled_len ≡ length (spelling labels)
  pub way : OnWay packet pointers at skipped.stretch here labels
  pub zero : StandsAt packet here (0 ∷ [])
  pub end : skipped.stretch_end ≡ here + 1
