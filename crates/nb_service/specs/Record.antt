-- Resource records as values (RFC 1002 section 4.2.1.3). Lengths are in bytes.
use Rattle.std.specs.Prelude.{◌≡◌, ◌≢◌, ℕ, ◌≤◌, List, length}
use Rattle.nb_service.specs.declared.kinds.TheConstants.{NS}
use Rattle.nb_service.specs.declared.limits.TheConstants.{MAX_RDATA}
use Rattle.nb_service.specs.declared.record.Rdata.{Rdata}
use Rattle.nb_service.specs.declared.record.Rdata.TheVariants.{Bytes, Domain}

-- the RDATA of a record: bytes, or the labels of a domain name
pub data ResourceData : Type 0 where
  of_bytes : List ℕ → ResourceData
  of_domain : List (List ℕ) → ResourceData

-- a record: the labels of its name, its type, class, time to live in seconds, and RDATA
pub record ResourceRecord : Type 0 where
  pub name : List (List ℕ)
  pub kind : ℕ
  pub class : ℕ
  pub ttl : ℕ
  pub rdata : ResourceData

-- record_of name kind class ttl rdata: the record of these parts
abbrev pub record_of : List (List ℕ) → ℕ → ℕ → ℕ → ResourceData → ResourceRecord
record_of name kind class ttl rdata =
    record { name = name; kind = kind; class = class; ttl = ttl; rdata = rdata }

-- IsRdataOf kind rdata: records of this type may have this RDATA: a domain name where the type is NS, and
-- elsewhere bytes, up to the 65,535 that RDLENGTH can hold
abbrev pub IsRdataOf : ℕ → ResourceData → Type 0
IsRdataOf kind (of_bytes bytes) = (kind ≢ NS) × (length bytes ≤ MAX_RDATA)
IsRdataOf kind (of_domain labels) = kind ≡ NS

-- the RDATA that a value of the code stands for
abbrev pub rdata_of : Rdata → ResourceData
rdata_of (Bytes bytes) = of_bytes bytes.now
rdata_of (Domain name) = of_domain name
