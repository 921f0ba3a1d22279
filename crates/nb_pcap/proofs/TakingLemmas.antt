-- The frames that were given, from call to call.
use Rattle.std.proofs.Common.{◌≡◌, ◌+◌, ◌++◌, ◌∷◌, ℕ, List, [], length, Option, Some, None, Result, Ok, Err, refl, subst, ◌∙◌, arith}
use Rattle.std.proofs.lemmas.List.{append-nil, length-append}
use Rattle.nb_streams.specs.Counted.{Counts}
use Rattle.nb_streams.specs.DeviceFacts.{Consumes-nil, Consumes-more, grows_on}
use Rattle.nb_pcap.specs.declared.context.Context.TheVariants.{Beginning}
use Rattle.nb_pcap.specs.declared.fault.FileFault.{FileFault}
use Rattle.nb_pcap.specs.declared.file_reading.Standing.{Standing}
use Rattle.nb_pcap.specs.File.{Spells, no_part}
use Rattle.nb_pcap.specs.Frame.{FrameValue}
use Rattle.nb_pcap.specs.Reading.{FileValue, Numbered, ReadsFrame, ReadsFrom, ReadsOn, nothing_read}
use Rattle.nb_pcap.specs.Taking.{HasGiven, HasEnded, HasStopped}
use Rattle.nb_pcap.proofs.FileLemmas.{spells_on, spells_then}
use Rattle.nb_pcap.proofs.StepLemmas.{same_counts, stops_longer}

pub given_none : (known : Option (List ℕ)) (counts : Counts) → HasGiven known known counts counts [] nothing_read
given_none known counts = record {
  got = [];
  consumes = Consumes-nil known;
  spells = no_part Beginning [];
  counted = refl;
  on = refl;
  place_is = refl;
  kept = refl;
  most = refl;
  grow = same_counts counts;
}

-- what was answered, where the file is read on
reads_on : (before now left : Option (List ℕ)) (counts midway later : Counts) (frames : List FrameValue) (file new : FileValue) (r : Result (Option Numbered) FileFault)
    → HasGiven before now counts midway frames file → ReadsFrame file now left midway later r new → ReadsOn file now left midway later r new
reads_on before now left counts midway later frames file new r w p = subst (λ (s : Standing). ReadsFrom s file now left midway later r new) w.on p.0

-- all that came is parts and the rest
came_spelled : (before now : Option (List ℕ)) (counts midway : Counts) (frames found : List FrameValue) (file new : FileValue) (came rest : List ℕ)
    → (w : HasGiven before now counts midway frames file) → Spells file.context (file.room.rest ++ came) found new.context rest
    → Spells Beginning (w.got ++ came) (frames ++ found) new.context rest
came_spelled before now counts midway frames found file new came rest w t =
    spells_then Beginning file.context new.context (w.got ++ came) (file.room.rest ++ came) rest frames found
    (spells_on Beginning file.context w.got came file.room.rest frames w.spells) t

pub given_next : (before now left : Option (List ℕ)) (counts midway later : Counts) (frames : List FrameValue) (file new : FileValue) (found : Numbered)
    → HasGiven before now counts midway frames file → ReadsFrame file now left midway later (Ok (Some found)) new
    → HasGiven before left counts later (frames ++ found.frame ∷ []) new × (found.number ≡ length frames + 1)
given_next before now left counts midway later frames file new found w p =
    let r = reads_on before now left counts midway later frames file new (Ok (Some found)) w p in
    let f = r.finds in (
      record {
        got = w.got ++ r.got;
        consumes = Consumes-more before now left w.got r.got w.consumes r.consumes;
        spells = came_spelled before now counts midway frames (found.frame ∷ []) file new r.got new.room.rest w f.0;
        counted = omega (arith, f.2, w.counted, length-append frames (found.frame ∷ []));
        on = f.3;
        place_is = omega (arith, w.place_is, f.5, length-append file.room.rest r.got, length-append w.got r.got);
        kept = omega (arith, w.kept, r.taken, length-append w.got r.got);
        most = r.most ∙ w.most;
        grow = grows_on counts midway later w.grow r.grow;
      },
      omega (arith, f.1, w.counted),
    )

pub given_all : (before now left : Option (List ℕ)) (counts midway later : Counts) (frames : List FrameValue) (file new : FileValue)
    → HasGiven before now counts midway frames file → ReadsFrame file now left midway later (Ok None) new → HasEnded before left frames
given_all before now left counts midway later frames file new w p =
    let r = reads_on before now left counts midway later frames file new (Ok None) w p in
    record {
      bytes = w.got ++ r.got;
      consumes = Consumes-more before now left w.got r.got w.consumes r.consumes;
      last = new.context;
      spells = subst (λ (fs : List FrameValue). Spells Beginning (w.got ++ r.got) fs new.context []) (append-nil frames)
          (came_spelled before now counts midway frames [] file new r.got [] w r.finds.0);
      begun = r.finds.2;
      at_end = r.finds.1;
    }

pub given_some : (before now left : Option (List ℕ)) (counts midway later : Counts) (frames : List FrameValue) (file new : FileValue) (why : FileFault)
    → HasGiven before now counts midway frames file → ReadsFrame file now left midway later (Err why) new
    → HasStopped before left counts later frames why new.place × (new.frames ≡ length frames)
given_some before now left counts midway later frames file new why w p =
    let r = reads_on before now left counts midway later frames file new (Err why) w p in
    let f = r.finds in (
      record {
        bytes = w.got ++ r.got;
        consumes = Consumes-more before now left w.got r.got w.consumes r.consumes;
        last = new.context;
        rest = f.0;
        spells = subst (λ (fs : List FrameValue). Spells Beginning (w.got ++ r.got) fs new.context f.0) (append-nil frames)
            (came_spelled before now counts midway frames [] file new r.got f.0 w f.1);
        place_is = omega (arith, w.place_is, f.3, length-append file.room.rest r.got, length-append w.got r.got);
        room = new.room;
        kept = omega (arith, w.kept, r.taken, length-append w.got r.got);
        most = r.most ∙ w.most;
        stops = stops_longer new.context f.0 left counts midway later new.room why w.grow f.2;
      },
      f.4 ∙ w.counted,
    )
