use Rattle.std.proofs.Common.{◌≡◌, ◌≤◌, ℕ, ◌+◌, List, length, refl, ap, subst, arith}
use Rattle.std.proofs.lemmas.Result.{err_from_is_err_and}
use Rattle.std.specs.Int.{w16, w32}
use Rattle.nb_names.specs.declared.reading.Pointers.TheVariants.{Followed}
use Rattle.nb_names.specs.Labels.{NameAt}
use Rattle.nb_streams.specs.Places.{NumberAt}
use Rattle.nb_service.specs.ServiceFaults.{RdataBegins, DomainFails, RecordFails, record_name, record_cut, rdata_cut, rdata_fails}
use Rattle.nb_service.specs.declared.fault.ServiceFault.{ServiceFault}
use Rattle.nb_service.specs.declared.kinds.TheConstants.{NS}
use Rattle.nb_service.specs.Items.{SeesRecord}
use Rattle.nb_service.specs.Record.{ResourceRecord, record_of}
use Rattle.nb_service.proofs.ItemLemmas.{same_record}
use Rattle.nb_service.proofs.seeing.see_record.Goals as goal

pub returns-in_err-name-clause-fault : goal.returns-in_err-name-clause-fault
returns-in_err-name-clause-fault c =
    let p = err_from_is_err_and c.from_residual.result c.from_residual.ensures.1 in
    rw (p.1, p.2) (record_name _ c.in_err-name.ensures.fault)

pub returns-then-packet-after-lt-RECORD_FIELDS-clause-fault : goal.returns-then-packet-after-lt-RECORD_FIELDS-clause-fault
returns-then-packet-after-lt-RECORD_FIELDS-clause-fault c =
    let named = c.in_ok-name.ensures.found in
    rw (ap length c.packet-packet.ensures) (record_cut named.0 _ named.1.name (omega (arith, ap length c.packet-packet.ensures)))

-- the fields before the RDATA
begins : (packet bytes : List ℕ) (at after kind size : ℕ) (labels : List (List ℕ)) → bytes ≡ packet → NameAt packet Followed at labels after →
    NumberAt bytes after w16 kind → NumberAt bytes (after + 8) w16 size → RdataBegins packet at kind size (after + 10)
begins packet bytes at after kind size labels same name k s = record {
  labels = labels;
  after = after;
  name = name;
  kind_there = subst (λ (p : List ℕ). NumberAt p after w16 kind) same k;
  size_there = subst (λ (p : List ℕ). NumberAt p (after + 8) w16 size) same s;
  begin = refl;
}

pub returns-then-packet-begin-clause-fault : goal.returns-then-packet-begin-clause-fault
returns-then-packet-begin-clause-fault c =
    let named = c.in_ok-name.ensures.found in
    rw (ap length c.packet-packet.ensures)
    (rdata_cut c.number_16-kind.result c.number_16-size.result (c.in_ok-name.name.next + 10) (begins _ _ _ _ _ _ named.0 c.packet-packet.ensures named.1.name c.number_16-kind.ensures c.number_16-size.ensures) (omega (arith, ap length c.packet-packet.ensures)))

-- the fault of the RDATA is the record's
rdata_why : (packet bytes : List ℕ) (at after kind size : ℕ) (labels : List (List ℕ)) (fault : ServiceFault) → bytes ≡ packet → NameAt packet Followed at labels after →
    NumberAt bytes after w16 kind → NumberAt bytes (after + 8) w16 size → after + 10 + size ≤ length packet →
    (kind ≡ NS) × DomainFails packet (after + 10) size fault → RecordFails packet at fault
rdata_why packet bytes at after kind size labels fault same name k s fits why =
    rdata_fails size (after + 10)
    (subst (λ (n : ℕ). RdataBegins packet at n size (after + 10)) why.0 (begins packet bytes at after kind size labels same name k s)) fits why.1

pub returns-in_err-check_rdata-clause-fault : goal.returns-in_err-check_rdata-clause-fault
returns-in_err-check_rdata-clause-fault c =
    let p = err_from_is_err_and c.from_residual-in_err-check_rdata.result c.from_residual-in_err-check_rdata.ensures.1 in
    rw (p.1, p.2)
    (rdata_why _ _ _ _ _ _ c.in_ok-name.ensures.found.0 _ c.packet-packet.ensures c.in_ok-name.ensures.found.1.name c.number_16-kind.ensures c.number_16-size.ensures (omega (arith, ap length c.packet-packet.ensures)) c.in_err-check_rdata.ensures.fault)

pub returns-in_err-check_rdata-clause-only : goal.returns-in_err-check_rdata-clause-only
returns-in_err-check_rdata-clause-only c entry next there =
    absurd
    (c.one_record.ensures.alone _ _ _ entry next
    (rdata_why _ _ _ _ _ _ c.in_ok-name.ensures.found.0 _ c.packet-packet.ensures c.in_ok-name.ensures.found.1.name c.number_16-kind.ensures c.number_16-size.ensures (omega (arith, ap length c.packet-packet.ensures)) c.in_err-check_rdata.ensures.fault)
    there)

sees : (c : goal.After-number_32) → (entry : ResourceRecord) × SeesRecord c.args.names.now entry (record {
  at = c.args.at;
  name = c.in_ok-name.name;
  fields = record {
    kind = c.number_16-kind.result;
    class = c.number_16.result;
    ttl = c.number_32.result;
    extent = record { rdata = c.in_ok-name.name.next + 10; next = c.in_ok-name.name.next + 10 + c.number_16-size.result };
  };
})
sees c =
    let named = c.in_ok-name.ensures.found in
    let rdata = c.in_ok-check_rdata.ensures.found in
    let same = c.packet-packet.ensures in
    let after = c.in_ok-name.name.next in
    let size = c.number_16-size.result in (
      record_of named.0 c.number_16-kind.result c.number_16.result c.number_32.result rdata.0,
      record {
        stands = record {
          after = after;
          size = size;
          name = named.1.name;
          kind = subst (λ (p : List ℕ). NumberAt p after w16 c.number_16-kind.result) same c.number_16-kind.ensures;
          class = subst (λ (p : List ℕ). NumberAt p (after + 2) w16 c.number_16.result) same c.number_16.ensures;
          ttl = subst (λ (p : List ℕ). NumberAt p (after + 4) w32 c.number_32.result) same c.number_32.ensures;
          rdlength = subst (λ (p : List ℕ). NumberAt p (after + 8) w16 size) same c.number_16-size.ensures;
          whole = omega (arith, ap length same);
          rdata = rdata.1;
          end = refl;
        };
        begins = refl;
        name = named.1;
        fields = refl;
      },
    )

pub returns-clause-found : goal.returns-clause-found
returns-clause-found c = (refl, sees c)

pub returns-clause-only : goal.returns-clause-only
returns-clause-only c entry next there =
    let seen = sees c in
    let one = c.one_record.ensures.one _ _ _ entry _ next seen.1.stands there in
    (refl, same_record _ _ _ _ one.0 seen.1, one.1)
