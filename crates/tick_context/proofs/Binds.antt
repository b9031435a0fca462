-- Where a pattern binds, and where none does.
use Rattle.std.proofs.Common.{◌≡◌, ◌⊎◌, inl, inr, ℕ, Bool, true, false, ◌==◌, if◌then◌else◌}
use Rattle.std.proofs.Common.{List, [], ◌∷◌, Option, None, Some, refl, sym, ◌∙◌, ap, subst}
use Rattle.std.proofs.lemmas.Bool.{false≢true}
use Rattle.sig_types.specs.declared.frame.Mode.{Mode}
use Rattle.sig_types.specs.declared.frame.Mode.TheVariants.{Start, Free, Seek, Coord, Ending, Flash, Entry, Track, Dwell, Exit}
use Rattle.sig_tables.specs.declared.tables.Tables.{Tables}
use Rattle.std.specs.Borrow.{Bor}
use Rattle.sig_types.specs.Colour.{is_start}
use Rattle.sig_tables.specs.Past.{Moment}
use Rattle.sig_tables.specs.Looking.{last_frame}
use Rattle.sig_tables.specs.Goals.{goal_in}
use Rattle.sig_tables.specs.declared.plan.Plan.{Plan}
use Rattle.sig_tables.specs.Clock.{target_at, target_in}
use Rattle.sig_tables.specs.Counters.{counter_in}
use Rattle.sig_tables.specs.Priority.{active_in}
use Rattle.sig_tables.specs.Past.{Asking}
use Rattle.sig_tables.specs.Lesser.{Lesser, InFull, AtMost}
use Rattle.sig_tables.specs.Splits.{coordinated_phases}
use Rattle.sig_tables.specs.Layout.{Has}
use Rattle.sig_types.specs.Phases.{is_in}
use Rattle.sig_types.specs.declared.phase_set.PhaseSet.{PhaseSet}
use Rattle.call_store.specs.Signals.{lesser_of}
use Rattle.prio_queue.specs.Places.{some_number}
use Rattle.flash_mode.specs.OwnMode.{AreSought as Listed}
use Rattle.preempt_stages.specs.Goals.{AreSought, ticks_of}
use Rattle.std.proofs.lemmas.Bool.Decides.{Decides-eqb}
use Rattle.sig_types.specs.declared.frame.Colour.{Colour}
use Rattle.sig_types.specs.Colour.{same_mode}
use Rattle.sig_tables.specs.Choosing.{mode_reached}
use Rattle.call_store.specs.Walks.{SaysInCoord}
use Rattle.tick_context.proofs.Sought.{reached-from}
use Rattle.sig_tables.specs.TickState.{StartUp, Rings, Goal, startup_phases, first_ring_turn, ring_turn_of}
use Rattle.pattern_plan.specs.declared.split_options.SplitOptions.{SplitOptions}
use Rattle.pattern_plan.specs.Options.{SplitSays, AreActivePattern}
use Rattle.sig_tables.specs.Modes.{bound, sequence_in}
use Rattle.tick_context.specs.declared.active_pattern.ActivePattern.{ActivePattern}
use Rattle.tick_context.specs.Modes.{is_coord, has_pattern}
use Rattle.tick_context.specs.Binds.{ActivePatternIs, IsBound}

-- a mode coordinated in a pattern is that of some pattern, and binds it; any other binds none
pub in-coord : (m : Mode) → is_coord m ≡ true → (n : ℕ) × (m ≡ Coord n)
in-coord (Coord n) e = (n, refl)
in-coord Start e = absurd (false≢true e)
in-coord Free e = absurd (false≢true e)
in-coord (Seek n) e = absurd (false≢true e)
in-coord Ending e = absurd (false≢true e)
in-coord Flash e = absurd (false≢true e)
in-coord (Entry i) e = absurd (false≢true e)
in-coord (Track i) e = absurd (false≢true e)
in-coord (Dwell i) e = absurd (false≢true e)
in-coord (Exit i) e = absurd (false≢true e)

pub unbound : (m : Mode) → is_coord m ≡ false → bound m ≡ None
unbound (Coord n) e = absurd (false≢true (sym e))
unbound Start e = refl
unbound Free e = refl
unbound (Seek n) e = refl
unbound Ending e = refl
unbound Flash e = refl
unbound (Entry i) e = refl
unbound (Track i) e = refl
unbound (Dwell i) e = refl
unbound (Exit i) e = refl

-- the options of the pattern that binds
pub options-some : (o : Bor SplitOptions) (t : Tables) (n : ℕ) (m : Option ℕ) → m ≡ Some n → SplitSays o.now t n → AreActivePattern (Some o) m t
options-some o t n m e s = rw e s

pub options-none : (t : Tables) (m : Option ℕ) → m ≡ None → AreActivePattern None m t
options-none t m e = rw e tt

-- where the rings move by themselves and no pattern binds, the first sequence is in force
not-rings : (b : Bool) (ps goal : List ℕ) → (if b then first_ring_turn ps (Goal goal) else Goal goal) ≡ Rings → ⊥
not-rings true [] goal e = let h : Goal goal ≡ Rings = e in cc h
not-rings true (p ∷ ps) goal e = let h : StartUp ≡ Rings = e in cc h
not-rings false ps goal e = let h : Goal goal ≡ Rings = e in cc h

pub first-sequence : (t : Tables) (past : List Moment) (m : Mode) → ring_turn_of t past m ≡ Rings → is_coord m ≡ false → sequence_in t m ≡ 1
first-sequence t past (Coord n) r e = absurd (false≢true (sym e))
first-sequence t past (Seek n) r e = absurd (not-rings (is_start (last_frame past).mode) (startup_phases t) (goal_in t (Seek n)) r)
first-sequence t past Start r e = refl
first-sequence t past Free r e = refl
first-sequence t past Ending r e = refl
first-sequence t past Flash r e = refl
first-sequence t past (Entry i) r e = refl
first-sequence t past (Track i) r e = refl
first-sequence t past (Dwell i) r e = refl
first-sequence t past (Exit i) r e = refl

-- the coordinated phases of a pattern that is sought, as two numbers and as a set
pub sought-phases : (b : ActivePattern) (t : Tables) (m k : Mode) → IsBound b t m → k ≡ m → Listed k b.plan.coordinated t
sought-phases b t (Seek n) k h e = rw e (ap (λ (x : Plan). x.coordinated) h.plan)
sought-phases b t (Coord n) k h e = rw e tt
sought-phases b t Start k h e = rw e tt
sought-phases b t Free k h e = rw e tt
sought-phases b t Ending k h e = rw e tt
sought-phases b t Flash k h e = rw e tt
sought-phases b t (Entry i) k h e = rw e tt
sought-phases b t (Track i) k h e = rw e tt
sought-phases b t (Dwell i) k h e = rw e tt
sought-phases b t (Exit i) k h e = rw e tt

pub sought-set : (b : ActivePattern) (t : Tables) (m : Mode) (s : PhaseSet) → IsBound b t m
    → ((u : Tables) (n : ℕ) → ActivePatternIs b u n → Has s (is_in (coordinated_phases u n))) → AreSought s t m
sought-set b t (Seek n) s h is = is t n h
sought-set b t (Coord n) s h is = tt
sought-set b t Start s h is = tt
sought-set b t Free s h is = tt
sought-set b t Ending s h is = tt
sought-set b t Flash s h is = tt
sought-set b t (Entry i) s h is = tt
sought-set b t (Track i) s h is = tt
sought-set b t (Dwell i) s h is = tt
sought-set b t (Exit i) s h is = tt

-- the target, where there is a pattern and where there is none
pub target-some : (b : ActivePattern) (t : Tables) (m : Mode) (clock x : ℕ) → has_pattern m ≡ true → IsBound b t m
    → ((n : ℕ) → ActivePatternIs b t n → x ≡ target_at t n clock) → x ≡ target_in t m clock
target-some b t (Seek n) clock x e h is = is n h
target-some b t (Coord n) clock x e h is = is n h
target-some b t Start clock x e h is = absurd (false≢true e)
target-some b t Free clock x e h is = absurd (false≢true e)
target-some b t Ending clock x e h is = absurd (false≢true e)
target-some b t Flash clock x e h is = absurd (false≢true e)
target-some b t (Entry i) clock x e h is = absurd (false≢true e)
target-some b t (Track i) clock x e h is = absurd (false≢true e)
target-some b t (Dwell i) clock x e h is = absurd (false≢true e)
target-some b t (Exit i) clock x e h is = absurd (false≢true e)

pub target-none : (t : Tables) (m : Mode) (clock : ℕ) → has_pattern m ≡ false → 0 ≡ target_in t m clock
target-none t (Seek n) clock e = absurd (false≢true (sym e))
target-none t (Coord n) clock e = absurd (false≢true (sym e))
target-none t Start clock e = refl
target-none t Free clock e = refl
target-none t Ending clock e = refl
target-none t Flash clock e = refl
target-none t (Entry i) clock e = refl
target-none t (Track i) clock e = refl
target-none t (Dwell i) clock e = refl
target-none t (Exit i) clock e = refl

-- no counter and no active request where no pattern is coordinated
pub no-counter : (t : Tables) (m : Mode) (target : ℕ) (past : List Moment) → is_coord m ≡ false → 0 ≡ counter_in t m target past
no-counter t (Coord n) target past e = absurd (false≢true (sym e))
no-counter t (Seek n) target past e = refl
no-counter t Start target past e = refl
no-counter t Free target past e = refl
no-counter t Ending target past e = refl
no-counter t Flash target past e = refl
no-counter t (Entry i) target past e = refl
no-counter t (Track i) target past e = refl
no-counter t (Dwell i) target past e = refl
no-counter t (Exit i) target past e = refl

pub no-request : (t : Tables) (m : Mode) (ticks : ℕ) (asked : List Asking) → is_coord m ≡ false → None ≡ some_number (active_in t m ticks asked)
no-request t (Coord n) ticks asked e = absurd (false≢true (sym e))
no-request t (Seek n) ticks asked e = refl
no-request t Start ticks asked e = refl
no-request t Free ticks asked e = refl
no-request t Ending ticks asked e = refl
no-request t Flash ticks asked e = refl
no-request t (Entry i) ticks asked e = refl
no-request t (Track i) ticks asked e = refl
no-request t (Dwell i) ticks asked e = refl
no-request t (Exit i) ticks asked e = refl

-- smaller times from two numbers of ticks
pub of-ticks : (x : Option (ℕ × ℕ)) (l : Lesser) → x ≡ ticks_of l → lesser_of x ≡ l
of-ticks x InFull e = ap lesser_of e
of-ticks x (AtMost walk clear) e = ap lesser_of e

-- what the split of a pattern says in a frame coordinated in it
pub says-none : (t : Tables) (m : Mode) → is_coord m ≡ false → SaysInCoord None m t
says-none t (Coord n) e = absurd (false≢true (sym e))
says-none t (Seek n) e = tt
says-none t Start e = tt
says-none t Free e = tt
says-none t Ending e = tt
says-none t Flash e = tt
says-none t (Entry i) e = tt
says-none t (Track i) e = tt
says-none t (Dwell i) e = tt
says-none t (Exit i) e = tt

pub says-some : (o : Bor SplitOptions) (t : Tables) (sought reached : Mode) (veh : List Colour) (b : ActivePattern) → is_coord reached ≡ true
    → reached ≡ mode_reached sought t veh → IsBound b t sought → b.options ≡ o.now → SaysInCoord (Some o) reached t
says-some o t sought reached veh b e f bound same =
    let (n, is) = in-coord reached e in
    rw is (subst (λ (x : SplitOptions). SplitSays x t n) same (of-either n (reached-from sought t veh n (ap (λ (m : Mode). same_mode m (Coord n)) (sym f
    ∙ is) ∙ same-self n))))
  where
    same-self : (n : ℕ) → (n == n) ≡ true
    same-self n = (Decides-eqb n n).1 refl

    of-either : (n : ℕ) → (sought ≡ Coord n) ⊎ (sought ≡ Seek n) → SplitSays b.options t n
    of-either n (inl s) = let is : ActivePatternIs b t n = subst (λ (m : Mode). IsBound b t m) s bound in is.options
    of-either n (inr s) = let is : ActivePatternIs b t n = subst (λ (m : Mode). IsBound b t m) s bound in is.options
