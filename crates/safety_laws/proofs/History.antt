-- The street of every lawful history is safe, and without downloads its versions are whole.
use Rattle.std.proofs.Common.{◌≡◌, ◌∙◌, sym, ap, subst, ℕ, Bool, List, [], ◌∷◌}
use Rattle.sig_types.specs.declared.frame.Frame.{Frame}
use Rattle.sig_tables.specs.declared.tables.Tables.{Tables}
use Rattle.sig_tables.specs.Past.{Event, History, Moment}
use Rattle.sig_tables.specs.Ticking.{colours_of}
use Rattle.sig_tables.specs.Seen.{moves_seen}
use Rattle.sig_tables.specs.TickState.{tick_state_of}
use Rattle.sig_tables.specs.Decide.{frames, past_of, past_at, since_opening}
use Rattle.trace_text.specs.declared.lines.Line.{Line}
use Rattle.tick_laws.specs.Each.{EachMoment}
use Rattle.tick_laws.specs.Lawful.{Lawful}
use Rattle.tick_laws.specs.Safe.{EachApart, EachClearanceEnds, EachGreenEnds, EachFollows}
use Rattle.tick_laws.specs.Walking.{EachOnGreen, EachSignalEnds, EachWalkWithin, EachFlashWithin, EachQuiet}
use Rattle.tick_laws.specs.Served.{AllServed}
use Rattle.tick_laws.proofs.Each.{at-last, each-moment}
use Rattle.tick_laws.proofs.Sought.{Numbered, reached-numbered, sought-known}
use Rattle.tick_laws.proofs.Apart.{holds}
use Rattle.tick_laws.proofs.Serving.{lawful-served}
use Rattle.tick_laws.proofs.Quiet.{each-quiet}
use Rattle.tick_laws.proofs.Ends.{each-clearance, each-green}
use Rattle.tick_laws.proofs.ColoursFollow.{each-follows}
use Rattle.tick_laws.proofs.Signals.{each-on-green, each-signals}
use Rattle.tick_laws.proofs.SignalWithin.{each-walk-within, each-flash-within}
use Rattle.safety_laws.specs.Safe.{Indications, Safe, Intersection, dark, shown_at, intersection_of, told}
use Rattle.safety_laws.specs.Whole.{Whole, downloads}
use Rattle.safety_laws.specs.Written.{TellsChanges, written, tables_of, version_tables}
use Rattle.safety_laws.proofs.CabinetTold.{shown-by-frames}
use Rattle.safety_laws.proofs.Intervals.{HasTables}
use Rattle.safety_laws.proofs.AfterDont.{AfterDont, each-after-dont}
use Rattle.safety_laws.proofs.Versions.{Versions, Within, versions, same-tables}
use Rattle.safety_laws.proofs.Street.{Known}
use Rattle.safety_laws.proofs.Lasting.{is-safe}
use Rattle.safety_laws.proofs.NoDownloads.{AllFirst, all-written, is-whole}

-- the laws of a history's moments
record Laws (s : Intersection) (moments : List Moment) : Type 0 where
  tables : HasTables s.tables moments
  numbered : EachMoment (λ past m. Numbered m.frame.mode) moments
  apart : EachApart moments
  quiet : EachQuiet moments
  clearances : EachClearanceEnds moments
  greens : EachGreenEnds moments
  follows : EachFollows moments
  signals : EachSignalEnds moments
  walks : EachWalkWithin moments
  flashes : EachFlashWithin moments
  after_dont : EachMoment AfterDont moments
  green : EachOnGreen moments

all-known : (s : Intersection) (moments : List Moment) → Laws s moments → EachMoment (Known s) moments
all-known s [] l = tt
all-known s (m ∷ past) l = (
  record {
    tables = l.tables.0;
    numbered = l.numbered.0;
    apart = l.apart.0;
    quiet = l.quiet.0;
    clearances = l.clearances.0;
    greens = l.greens.0;
    follows = l.follows.0;
    signals = l.signals.0;
    walks = l.walks.0;
    flashes = l.flashes.0;
    after_dont = l.after_dont.0;
    green = l.green.0;
  },
  all-known s past (record {
    tables = l.tables.1;
    numbered = l.numbered.1;
    apart = l.apart.1;
    quiet = l.quiet.1;
    clearances = l.clearances.1;
    greens = l.greens.1;
    follows = l.follows.1;
    signals = l.signals.1;
    walks = l.walks.1;
    flashes = l.flashes.1;
    after_dont = l.after_dont.1;
    green = l.green.1;
  }),
)

-- the stages that a history shows are those of preempts that there are
each-numbered : (opening : Tables) (events : List Event) → EachMoment (λ past m. Numbered m.frame.mode) (past_of opening events).moments
each-numbered opening events =
    each-moment opening (λ past m. Numbered m.frame.mode) tt
    (λ past h. reached-numbered (tick_state_of past).mode past.tables (colours_of past (moves_seen past))
    (sought-known _ _ _ _ past.moments (at-last (λ f. Numbered f.mode) tt past.moments h))) events

pub history-safe : (h : History) (tables : ℕ → Tables) (has_line : Frame → Frame → Bool) (cab : ℕ) (lines : List Line)
    → ((version : ℕ) → tables version ≡ tables_of h version) → Lawful h.tables (since_opening h)
    → TellsChanges has_line → told cab lines ≡ written has_line (frames h) → Safe (intersection_of cab tables lines)
history-safe h tables has_line cab lines same lawful tells e =
    let served : AllServed h.tables (since_opening h) = lawful-served h.tables (since_opening h) lawful in
    let v : Versions (version_tables h.tables (since_opening h)) (past_at h) = versions h.tables (since_opening h) in
    let known = holds h.tables (since_opening h) lawful in
    is-safe (intersection_of cab tables lines) (past_at h).moments v.some
    (λ tick. ap (λ (x : List (ℕ × Indications)). shown_at tick dark x) e ∙ shown-by-frames has_line tells tick (past_at h).moments)
    (all-known (intersection_of cab tables lines) (past_at h).moments (record {
      tables = same-tables tables (version_tables h.tables (since_opening h)) same _ v.each;
      numbered = each-numbered h.tables (since_opening h);
      apart = known.apart;
      quiet = each-quiet h.tables (since_opening h) lawful;
      clearances = each-clearance h.tables (since_opening h);
      greens = each-green h.tables (since_opening h) served;
      follows = each-follows h.tables (since_opening h);
      signals = each-signals h.tables (since_opening h) served;
      walks = each-walk-within h.tables (since_opening h) served;
      flashes = each-flash-within h.tables (since_opening h);
      after_dont = each-after-dont h.tables (since_opening h);
      green = each-on-green h.tables (since_opening h) served;
    }))

pub history-whole : (h : History) (has_line : Frame → Frame → Bool) (cab : ℕ) (lines : List Line)
    → (past_at h).version ≡ 0 → told cab lines ≡ written has_line (frames h) → downloads cab lines ≡ 0 → Whole cab lines
history-whole h has_line cab lines none e =
    is-whole cab lines
    (subst AllFirst (sym e) (all-written has_line (past_at h).moments
    (subst (λ (n : ℕ). Within n (past_at h).moments) none (versions h.tables (since_opening h)).within)))
