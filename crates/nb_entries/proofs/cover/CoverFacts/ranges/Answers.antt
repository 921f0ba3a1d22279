use Rattle.nb_entries.proofs.cover.CoverFacts.ranges.Goals as goal

pub ranges-requires : goal.ranges-requires
ranges-requires c = rw (← c.self.view_is) at c.requires
