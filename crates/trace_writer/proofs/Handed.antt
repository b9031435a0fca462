-- Texts that are handed over one after another, and texts whose front was handed over.
use Rattle.std.proofs.Common.{◌≡◌, ◌≢◌, ◌≤◌, inl, inr, ℕ, Bool, List, [], ◌++◌, Option, Result, Ok, Err, OnOk, append_assoc, append-nil, refl, sym, ◌∙◌, ap, subst, arith}
use Rattle.io_edge.specs.Edge.{Rises}
use Rattle.io_edge.proofs.Appending.{appended-nil}
use Rattle.trace_writer.specs.declared.writer.Stop.{Stop}
use Rattle.trace_writer.specs.declared.writer.Stop.TheVariants.{NoMemory}
use Rattle.trace_writer.specs.declared.writer.Writer.{Writer}
use Rattle.trace_writer.specs.Handing.{held_by, HandsOver, HandsWithin, Writes, WritesWithin}
use Rattle.trace_writer.proofs.Writing.{empty_front, empty_up_to, front_up_to, none_up_to, puts_up_to, flush_all, flush_front, front_first, front_yet, puts_then, puts_front, some_behind}

-- a fault that came later came
pub rises_later : (first mid last : ℕ) → first ≤ mid → Rises mid last → Rises first last
rises_later first mid last kept (inl more) = inl (omega (arith, kept, more))
rises_later first mid last kept (inr most) = inr most

module _ {K : Type 0} (written : K → Option (List ℕ)) (faults : K → ℕ) (exact : Bool) where
  -- nothing, handed over
  pub hands-nothing : (w : Writer) (k : K) → HandsOver written faults exact (Ok tt) w w k k []
  hands-nothing w k = record {
    whole = ([], append-nil (held_by w), sym (appended-nil (written k)));
    front = tt;
    fault = λ e. absurd (cc);
    counts = λ is. refl;
    kept = omega arith;
  }

  -- memory was refused before anything was handed over
  pub hands-none : (w : Writer) (k : K) (text : List ℕ) → text ≢ [] → HandsOver written faults exact (Err NoMemory) w w k k text
  hands-none w k text some = record {
    whole = tt;
    front = front_yet (written k) (held_by w ++ text) (some_behind (held_by w) text some);
    fault = λ e. absurd (cc);
    counts = tt;
    kept = omega arith;
  }

  -- one text after another
  pub hands-then : {u : Unit {0}} (result : Result (Unit {0}) Stop) (old mid new : Writer) (from at to : K) (p q : List ℕ)
      → HandsOver written faults exact (Ok u) old mid from at p → HandsOver written faults exact result mid new at to q
      → HandsOver written faults exact result old new from to (p ++ q)
  hands-then (Ok v) old mid new from at to p q one two = record {
    whole = puts_then _ _ _ (held_by old) (held_by mid) (held_by new) p q one.whole two.whole;
    front = tt;
    fault = λ e. absurd (cc);
    counts = λ is. two.counts is ∙ one.counts is;
    kept = omega (arith, one.kept, two.kept);
  }
  hands-then (Err e) old mid new from at to p q one two = record {
    whole = tt;
    front = puts_front _ _ _ (held_by old) (held_by mid) p q one.whole two.front;
    fault = λ is. rises_later _ _ _ one.kept (two.fault is);
    counts = tt;
    kept = omega (arith, one.kept, two.kept);
  }

  -- the first text stopped short
  pub hands-first : {e : Stop} (old new : Writer) (from to : K) (p q : List ℕ) → HandsOver written faults exact (Err e) old new from to p
      → HandsOver written faults exact (Err e) old new from to (p ++ q)
  hands-first old new from to p q one = record {
    whole = tt;
    front = front_first _ _ (held_by old) p q one.front;
    fault = one.fault;
    counts = tt;
    kept = one.kept;
  }

  -- what an empty writer was handed is written as what is held is
  pub writes-all : {u : Unit {0}} (result : Result (Unit {0}) Stop) (old new : Writer) (from at to : K) (text : List ℕ) → held_by old ≡ []
      → HandsOver written faults exact (Ok u) old new from at text → Writes written faults exact result at to (held_by new) → Writes written faults exact result from to text
  writes-all (Ok v) old new from at to text none one last = record {
    whole = flush_all _ _ _ (held_by old) (held_by new) text none one.whole last.whole;
    front = tt;
    fault = λ e. absurd (cc);
    counts = λ is. last.counts is ∙ one.counts is;
    kept = omega (arith, one.kept, last.kept);
  }
  writes-all (Err e) old new from at to text none one last = record {
    whole = tt;
    front = flush_front _ _ _ (held_by old) (held_by new) text none one.whole last.front;
    fault = λ is. rises_later _ _ _ one.kept (last.fault is);
    counts = tt;
    kept = omega (arith, one.kept, last.kept);
  }

  -- where handing over stopped short, a prefix of it is
  pub writes-front : {e : Stop} (old new : Writer) (from to : K) (text : List ℕ) → held_by old ≡ [] → HandsOver written faults exact (Err e) old new from to text
      → Writes written faults exact (Err e) from to text
  writes-front old new from to text none one = record {
    whole = tt;
    front = empty_front _ _ (held_by old) text none one.front;
    fault = one.fault;
    counts = tt;
    kept = one.kept;
  }

  -- memory was refused before anything was written
  pub writes-none : (k : K) (text : List ℕ) → text ≢ [] → Writes written faults exact (Err NoMemory) k k text
  writes-none k text some = record {
    whole = tt;
    front = front_yet (written k) text some;
    fault = λ e. absurd (cc);
    counts = tt;
    kept = omega arith;
  }

  -- a fact is one where a result is done
  on_ok : (result : Result (Unit {0}) Stop) (P : Type 0) → P → OnOk result P
  on_ok (Ok u) P p = p
  on_ok (Err e) P p = tt

  -- no round was closed, and nothing was written
  pub within-none : {e : Stop} (w : Writer) (k : K) (left : ℕ) (text : List ℕ) → HandsWithin written (Err e) w k k left text
  within-none w k left text = record { none = tt; up_to = λ some. none_up_to (written k) (held_by w ++ text) }

  -- handing over the text of the closed rounds stopped short
  pub within-short : {e : Stop} (old new : Writer) (from to : K) (left : ℕ) (text : List ℕ) → HandsOver written faults exact (Err e) old new from to text
      → HandsWithin written (Err e) old from to left text
  within-short old new from to left text one = record { none = tt; up_to = λ some. front_up_to _ _ (held_by old ++ text) one.front }

  -- before that of the closed rounds another text stopped short
  pub within-first : {e : Stop} (old new : Writer) (from to : K) (left : ℕ) (p q : List ℕ) → HandsOver written faults exact (Err e) old new from to p
      → HandsWithin written (Err e) old from to left (p ++ q)
  within-first old new from to left p q one = record {
    none = tt;
    up_to = λ some. front_up_to _ _ (held_by old ++ (p ++ q)) (front_first _ _ (held_by old) p q one.front);
  }

  -- it was handed over whole
  pub within-whole : {u : Unit {0}} {e : Stop} (old new : Writer) (from to : K) (left : ℕ) (text : List ℕ) → HandsOver written faults exact (Ok u) old new from to text
      → HandsWithin written (Err e) old from to left text
  within-whole old new from to left text one = record { none = tt; up_to = λ some. (held_by new, one.whole) }

  -- after another text
  pub within-then : {u : Unit {0}} (result : Result (Unit {0}) Stop) (old mid : Writer) (from at to : K) (left : ℕ) (p q : List ℕ)
      → HandsOver written faults exact (Ok u) old mid from at p → HandsWithin written result mid at to left q
      → HandsWithin written result old from to left (p ++ q)
  within-then result old mid from at to left p q one two = record {
    none = two.none;
    up_to = λ some. puts_up_to _ _ _ (held_by old) (held_by mid) p q one.whole (two.up_to some);
  }

  -- no round is left
  pub within-all : (result : Result (Unit {0}) Stop) (old : Writer) (from to : K) (left : ℕ) (text : List ℕ) → left ≡ 0
      → HandsWithin written result old from to left text
  within-all result old from to left text none = record {
    none = on_ok result (left ≡ 0) none;
    up_to = λ some. absurd (omega (arith, none, some));
  }

  -- the same of what an empty writer was handed
  pub wrote-within : {e : Stop} (old : Writer) (from to : K) (left : ℕ) (text : List ℕ) → held_by old ≡ [] → HandsWithin written (Err e) old from to left text
      → WritesWithin written (Err e) from to left text
  wrote-within old from to left text none so = record {
    none = tt;
    up_to = λ some. empty_up_to _ _ (held_by old) text none (so.up_to some);
  }

  pub wrote-none : {e : Stop} (k : K) (left : ℕ) (text : List ℕ) → WritesWithin written (Err e) k k left text
  wrote-none k left text = record { none = tt; up_to = λ some. none_up_to (written k) text }

  pub wrote-all : (result : Result (Unit {0}) Stop) (from to : K) (left : ℕ) (text : List ℕ) → left ≡ 0 → WritesWithin written result from to left text
  wrote-all result from to left text none = record {
    none = on_ok result (left ≡ 0) none;
    up_to = λ some. absurd (omega (arith, none, some));
  }
