use Rattle.std.proofs.Common.{inl, arith}
use Rattle.look_back.proofs.Adding.{adds-like, adds-first, more-lasts, none-older, keeps-new}
use Rattle.look_back.proofs.frame_runs.FrameRuns.add.Goals as goal

pub returns-then-is_same-clause-keeps : goal.returns-then-is_same-clause-keeps
returns-then-is_same-clause-keeps c = λ past m keeps tells.
    let same = c.is_same.ensures.0 c.if-is_same.true in
    let newest = c.args.self.now.newest in
    record {
      tells = rw c.one_more-self.ensures (adds-like newest.ticks newest.sample c.args.self.now.older.items m past (rw same at tells) keeps.tells);
      newest = inl (rw c.one_more-self.ensures (more-lasts newest.ticks));
      older = keeps.older;
      room = keeps.room;
    }

pub returns-then-self-eq0-clause-keeps : goal.returns-then-self-eq0-clause-keeps
returns-then-self-eq0-clause-keeps c = λ past m keeps tells.
    let s = c.args.self.now in
    let empty = none-older s.newest.ticks s.older.items keeps.newest c.if-self-eq0.true in
    record {
      tells = adds-first c.args.sample s.newest s.older.items m past tells c.if-self-eq0.true empty keeps.tells;
      newest = inl (omega arith);
      older = keeps.older;
      room = keeps.room;
    }

pub returns-else-self-eq0-clause-keeps : goal.returns-else-self-eq0-clause-keeps
returns-else-self-eq0-clause-keeps c = λ past m keeps tells.
    keeps-new c.args.sample c.args.self.now _ m past keeps c.if-self-eq0.false c.push_front.ensures.items tells
