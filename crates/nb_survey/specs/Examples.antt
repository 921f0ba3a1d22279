-- A packet of the laws by example.
use Rattle.std.specs.Prelude.{ℕ, ◌≡◌, false, List, [], ◌∷◌, replicate, None, Some, codes}
use Rattle.std.specs.declared.net.ip_addr.IpAddr.{IpAddr}
use Rattle.std.specs.declared.net.ip_addr.IpAddr.TheVariants.{V4}
use Rattle.nb_service.specs.declared.views.AddressEntry.{AddressEntry}
use Rattle.nb_survey.specs.declared.heard.Facts.{Facts}
use Rattle.nb_survey.specs.declared.heard.Heard.{Heard}
use Rattle.nb_survey.specs.declared.query.Query.{Query}

-- the labels of `FRED`, with spaces to its end (RFC 1001 section 14.1)
abbrev pub fred : List (List ℕ)
fred = codes "EGFCEFEECACACACACACACACACACACACA" ∷ []

-- 10.0.0.7
abbrev pub seven : IpAddr
seven = V4 (record { octets = 10 ∷ 0 ∷ 0 ∷ 7 ∷ [] })

-- 10.0.0.8
abbrev pub eight : IpAddr
eight = V4 (record { octets = 10 ∷ 0 ∷ 0 ∷ 8 ∷ [] })

-- IsFrom heard flags entries: a packet about `FRED` with this flag word and these entries, from 10.0.0.7 to 10.0.0.8
pub record IsFrom (heard : Heard) (flags : ℕ) (entries : List AddressEntry) : Type 0 where
  pub name : heard.name ≡ Some fred
  pub word : heard.flags ≡ flags
  pub has : heard.entries.items ≡ entries
  pub none : heard.listed.items ≡ []
  pub source : heard.facts.frame.source ≡ seven
  pub target : heard.facts.frame.target ≡ eight

-- a query for `FRED` with identifier 1, from 10.0.0.7 to 10.0.0.8, in frame 1 at the start of 1970
abbrev pub query : Query
query = record {
  id = 1;
  kind = Some 32;
  asker = seven;
  station = eight;
  is_to_group = false;
  since = Some 0;
  latest = 0;
  packets = 1;
  frames = 1 ∷ replicate 15 0;
  is_over = false;
  is_closed = false;
  is_answered = false;
  reply = None;
}

-- facts_at source target time: a packet with identifier 1 in frame 2
abbrev pub facts_at : IpAddr → IpAddr → ℕ → Facts
facts_at source target time = record {
  frame = record { number = 2; time = Some time; source = source; target = target; mac = None; is_to_group = Some false };
  id = 1;
  ttl = None;
  is_malformed = false;
}

-- IsSent heard flags source target time: a packet with this flag word, type NB and identifier 1, in frame 2
pub record IsSent (heard : Heard) (flags : ℕ) (source target : IpAddr) (time : ℕ) : Type 0 where
  pub word : heard.flags ≡ flags
  pub kind : heard.kind ≡ Some 32
  pub facts : heard.facts ≡ facts_at source target time

-- IsPlain heard flags source target id: a packet about `FRED` with this flag word and identifier, without records
pub record IsPlain (heard : Heard) (flags : ℕ) (source target : IpAddr) (id : ℕ) : Type 0 where
  pub name : heard.name ≡ Some fred
  pub word : heard.flags ≡ flags
  pub has : heard.entries.items ≡ []
  pub none : heard.listed.items ≡ []
  pub waits : heard.waits_for ≡ None
  pub facts : heard.facts ≡ record (facts_at source target 0) { id = id }
