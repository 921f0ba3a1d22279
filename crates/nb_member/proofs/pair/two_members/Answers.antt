use Rattle.nb_member.proofs.Common.{subst, Pair, AreGivenTheSame, HandsOverOnce, HandsOverTheSenders, StoppedForMemory, valid, cores, MemberValue, TakesEvents}
use Rattle.nb_member.proofs.AgreementLemmas.SameTable.{BothDid, both_did, agree}
use Rattle.nb_member.proofs.AgreementLemmas.SameDeliveries.{of_each, both_same}
use Rattle.nb_member.proofs.pair.two_members.Goals as goal

pub returns-clause-a : goal.returns-clause-a
returns-clause-a c =
    let r = c.run-report_a in
    subst (λ (m : MemberValue). TakesEvents m c.args.events_a.now r.new.member r.result) c.new-a.ensures r.ensures

pub returns-clause-b : goal.returns-clause-b
returns-clause-b c =
    let r = c.run-report_b in
    subst (λ (m : MemberValue). TakesEvents m c.args.events_b.now r.new.member r.result) c.new-b.ensures r.ensures

-- the pair that is answered
abbrev pair : goal.After-run-report_b → Pair
pair c = record {
  a = c.run-report_a.new.member;
  b = c.run-report_b.new.member;
  report_a = c.run-report_a.result;
  report_b = c.run-report_b.result;
}

-- what both did that are given the same and didn't run out of memory
did : (c : goal.After-run-report_b) → (h : AreGivenTheSame c.args.settings c.args.events_a.now c.args.events_b.now)
    → ¬ StoppedForMemory c.run-report_a.result → ¬ StoppedForMemory c.run-report_b.result
    → BothDid c.args.settings c.args.names_a c.args.names_b c.args.events_a.now c.args.events_b.now (pair c) h.sayings h.sayings_there
did c =
    both_did (record { one = c.an_event_says_one_thing.ensures.event; row = c.an_event_says_one_thing.ensures.events })
    c.the_same_fragments_make_the_same_table.ensures.room c.args.settings c.args.names_a c.args.names_b c.args.events_a.now c.args.events_b.now (pair c)
    (returns-clause-a c) (returns-clause-b c)

pub returns-clause-agree : goal.returns-clause-agree
returns-clause-agree c = λ h memory_a memory_b.
    agree (did c h memory_a memory_b) (c.the_same_fragments_make_the_same_table.ensures.same c.args.settings h.sayings h.sayings_there h.same)

pub returns-clause-once : goal.returns-clause-once
returns-clause-once c = λ h memory_a memory_b.
    let law = c.both_hand_over_the_same.ensures in
    of_each (λ names ds. HandsOverOnce names (cores (valid h.sayings)) ds) (did c h memory_a memory_b) (law.once c.args.settings h.sayings h.sayings_there h.same c.args.names_a)
    (law.once_there c.args.settings h.sayings h.sayings_there h.same c.args.names_b)

pub returns-clause-same : goal.returns-clause-same
returns-clause-same c = λ h memory_a memory_b.
    both_same (did c h memory_a memory_b)
    (c.both_hand_over_the_same.ensures.same c.args.settings h.sayings h.sayings_there h.same c.args.names_a c.args.names_b)

pub returns-clause-senders : goal.returns-clause-senders
returns-clause-senders c = λ h memory_a memory_b.
    let law = c.a_senders_datagram_is_handed_over.ensures in
    of_each (λ names ds. HandsOverTheSenders names (cores (valid h.sayings)) ds) (did c h memory_a memory_b) (law.here c.args.settings h.sayings h.sayings_there h.same c.args.names_a)
    (law.there c.args.settings h.sayings h.sayings_there h.same c.args.names_b)
