-- Where each cell of the opening tables holds an allowed value, so does each cell of all tables that a cabinet history
-- puts in force.
use Rattle.std.proofs.Common.{[], ◌∷◌, sym, subst, inl, inr}
use Rattle.sig_types.specs.declared.notes.StageAnswer.{StageAnswer}
use Rattle.sig_types.specs.declared.notes.StageAnswer.TheVariants.{Staged, Repeated, Verified, Accepted, WrongToken, WrongPart, NotVerified, Refused}
use Rattle.sig_tables.specs.declared.tables.Tables.{Tables}
use Rattle.sig_tables.specs.Putting.{EachFits}
use Rattle.sig_tables.specs.Past.{Event, Tick, Input, Install, SetPattern, SetClock, Ask, Cancel, SetDrift, History}
use Rattle.sig_tables.specs.Decide.{since_opening}
use Rattle.sig_tables.specs.Events.{EachEvent}
use Rattle.sig_tables.proofs.Ranges.{in-range}
use Rattle.stage_txn.specs.Calls.{Call, Begin, Part, Verify, Finish}
use Rattle.stage_txn.specs.Answers.{answered, staged}
use Rattle.stage_txn.specs.Laws.{BeginInRange}
use Rattle.stage_txn.proofs.InRange.{staged-fits}
use Rattle.plan_facts.specs.Disturbances.{Drift}
use Rattle.coordination_laws.specs.Ranged.{PutsInRange, EachInRange}
use Rattle.cabinet_history.specs.CabinetHistory.{CabinetHistory}
use Rattle.cabinet_history.specs.Coming.{Coming, in_force, answer_in, installs, with_events, coming, coming_from, history_of}
use Rattle.cabinet_laws.specs.Openings.{IsOpening}
use Rattle.cabinet_laws.proofs.Steps.{IsPlain, IsMadeAt, called, happened, Any, any, cabinet_history-keeps}

-- each cell of the opening tables, of those in force now and at each begin, and of each download put in force is in its range
pub record Ranged (c : Coming) : Type 0 where
  pub opening : EachFits c.history.tables
  pub now : EachFits (in_force c)
  pub begins : BeginInRange c.calls
  pub puts : EachEvent PutsInRange (since_opening c.history)

plain-ranged : (c : Coming) (e : Event) → IsPlain e → Ranged c → Ranged (happened c e)
plain-ranged c Tick is r = record { opening = r.opening; now = r.now; begins = r.begins; puts = (tt, r.puts) }
plain-ranged c (Input field) is r = record { opening = r.opening; now = r.now; begins = r.begins; puts = (tt, r.puts) }
plain-ranged c (Install tables) is r = absurd is
plain-ranged c (SetPattern n) is r = record { opening = r.opening; now = r.now; begins = r.begins; puts = (tt, r.puts) }
plain-ranged c (SetClock time) is r = record { opening = r.opening; now = r.now; begins = r.begins; puts = (tt, r.puts) }
plain-ranged c (Ask request) is r = record { opening = r.opening; now = r.now; begins = r.begins; puts = (tt, r.puts) }
plain-ranged c (Cancel number) is r = record { opening = r.opening; now = r.now; begins = r.begins; puts = (tt, r.puts) }
plain-ranged c (SetDrift gain lose) is r = absurd is

install-ranged : (c : Coming) (call : Call) (next : Tables) (a : StageAnswer) → EachFits next → BeginInRange (call ∷ c.calls) → Ranged c
    → Ranged (record { history = with_events c.history (installs next a); calls = call ∷ c.calls })
install-ranged c call next Accepted fits begins r = record { opening = r.opening; now = fits; begins = begins; puts = (in-range next fits, r.puts) }
install-ranged c call next Staged fits begins r = record { opening = r.opening; now = r.now; begins = begins; puts = r.puts }
install-ranged c call next Repeated fits begins r = record { opening = r.opening; now = r.now; begins = begins; puts = r.puts }
install-ranged c call next Verified fits begins r = record { opening = r.opening; now = r.now; begins = begins; puts = r.puts }
install-ranged c call next WrongToken fits begins r = record { opening = r.opening; now = r.now; begins = begins; puts = r.puts }
install-ranged c call next (WrongPart n) fits begins r = record { opening = r.opening; now = r.now; begins = begins; puts = r.puts }
install-ranged c call next NotVerified fits begins r = record { opening = r.opening; now = r.now; begins = begins; puts = r.puts }
install-ranged c call next (Refused b) fits begins r = record { opening = r.opening; now = r.now; begins = begins; puts = r.puts }

call-ranged : (c : Coming) (call : Call) → IsMadeAt c call → Ranged c → Ranged (called c call)
call-ranged c (Begin id now) is r =
    record { opening = r.opening; now = r.now; begins = (subst EachFits (sym is.1) r.now, r.begins); puts = r.puts }
call-ranged c (Part id number cells) is r = record { opening = r.opening; now = r.now; begins = r.begins; puts = r.puts }
call-ranged c (Verify id total now flashing) is r = record { opening = r.opening; now = r.now; begins = r.begins; puts = r.puts }
call-ranged c (Finish id now flashing) is r =
    install-ranged c (Finish id now flashing) (staged (answered c.calls)) (answer_in c (Finish id now flashing))
    (staged-fits c.calls r.begins) r.begins r

opens-ranged : (t : Tables) (d : Drift) (h : History) → IsOpening t d h → EachFits t → Ranged (record { history = h; calls = [] })
opens-ranged t d h (command, clock, inl (e, even)) fits =
    subst (λ (x : History). Ranged (record { history = x; calls = [] })) (sym e)
    (record { opening = fits; now = fits; begins = tt; puts = (tt, (tt, tt)) })
opens-ranged t d h (command, clock, inr e) fits =
    subst (λ (x : History). Ranged (record { history = x; calls = [] })) (sym e)
    (record { opening = fits; now = fits; begins = tt; puts = (tt, (tt, (tt, tt))) })

cabinet_history-ranged : (cabinet_history : CabinetHistory) (t : Tables) (d : Drift) → IsOpening t d cabinet_history.opening → EachFits t → Ranged (coming cabinet_history)
cabinet_history-ranged cabinet_history t d opens fits =
    cabinet_history-keeps Any Ranged (record { event = plain-ranged; call = λ c call is before after r. call-ranged c call is r })
    cabinet_history.community cabinet_history.opening (λ items. any (coming_from cabinet_history.community cabinet_history.opening items))
    (opens-ranged t d cabinet_history.opening opens fits) cabinet_history.items

pub now-fits : (cabinet_history : CabinetHistory) (t : Tables) (d : Drift) → IsOpening t d cabinet_history.opening → EachFits t → EachFits (in_force (coming cabinet_history))
now-fits cabinet_history t d opens fits = (cabinet_history-ranged cabinet_history t d opens fits).now

pub all-ranged : (cabinet_history : CabinetHistory) (t : Tables) (d : Drift) → IsOpening t d cabinet_history.opening → EachFits t
    → EachInRange (history_of cabinet_history).tables (since_opening (history_of cabinet_history))
all-ranged cabinet_history t d opens fits =
    let r : Ranged (coming cabinet_history) = cabinet_history-ranged cabinet_history t d opens fits in
    (in-range (history_of cabinet_history).tables r.opening, r.puts)
