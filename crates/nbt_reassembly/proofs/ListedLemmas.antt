-- What `nbt list` prints, by what is asked for.
use Rattle.nbt_reassembly.proofs.Common.{◌≡◌, Bool, false, true, codes, subst, Result, ArgMatches, Fault, ListCommand, PrintsTables, Streams, listed_as, IsGiven}

-- the join of tables as it is asked for
pub listed : (matches : ArgMatches) (json : Bool) (s : Streams) (r : Result Unit Fault) → ((given : Bool) → IsGiven matches (codes "json") given → json ≡ given)
    → PrintsTables matches (listed_as json) s r → ListCommand matches s r
listed matches json s r given prints = record {
  text = λ asked. subst (λ (b : Bool). PrintsTables matches (listed_as b) s r) (given false asked) prints;
  json = λ asked. subst (λ (b : Bool). PrintsTables matches (listed_as b) s r) (given true asked) prints;
  why = prints.why;
}
