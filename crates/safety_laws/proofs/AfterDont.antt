-- After Dont comes Walk, and never Flash.
use Rattle.std.proofs.Common.{◌≡◌, ◌≢◌, ℕ, Bool, true, false, if◌then◌else◌, List, ◌∙◌, ap}
use Rattle.sig_types.specs.declared.frame.Ped.{Ped}
use Rattle.sig_types.specs.declared.frame.Ped.TheVariants.{Walk, Dont}
use Rattle.sig_types.specs.Phases.{is_phase}
use Rattle.sig_types.specs.Colour.{signal_of}
use Rattle.sig_tables.specs.declared.tables.Tables.{Tables}
use Rattle.sig_tables.specs.Past.{Event, Moment, Past}
use Rattle.sig_tables.specs.Looking.{last_frame}
use Rattle.sig_tables.specs.Lesser.{signal_runs_within}
use Rattle.sig_tables.specs.Goals.{lesser_in}
use Rattle.sig_tables.specs.Seen.{mode_seen}
use Rattle.sig_tables.specs.Decide.{next_moment, past_of}
use Rattle.tick_laws.specs.Each.{EachMoment}
use Rattle.tick_laws.proofs.Each.{each-moment}
use Rattle.tick_laws.proofs.Next.{walk_seen, signal_left, next-signal, first-dont}
use Rattle.tick_laws.proofs.Signals.{dont-stays}

-- where the signal of p was Dont, and isn't any more, it is Walk
abbrev pub AfterDont : List Moment → Moment → Type 0
AfterDont past m =
    (p : ℕ) → is_phase p ≡ true → signal_of (last_frame past) p ≡ Dont → signal_of m.frame p ≢ Dont → signal_of m.frame p ≡ Walk

walks : (b : Bool) (left now : Ped) → left ≡ Dont → now ≡ (if b then Walk else left) → now ≢ Dont → now ≡ Walk
walks true left now d e ne = e
walks false left now d e ne = absurd (ne (e ∙ d))

next-walks : (past : Past) → AfterDont past.moments (next_moment past)
next-walks past p ph d ne =
    walks (walk_seen past p) (signal_left past p) (signal_of (next_moment past).frame p)
    (ap (λ (x : Ped). signal_runs_within (lesser_in past.tables (mode_seen past) p) p past.tables past.moments x) d
    ∙ dont-stays (lesser_in past.tables (mode_seen past) p) p past.tables past.moments)
    (next-signal past p ph) ne

pub each-after-dont : (opening : Tables) (events : List Event) → EachMoment AfterDont (past_of opening events).moments
each-after-dont opening events =
    each-moment opening AfterDont (λ p ph d ne. absurd (ne (first-dont p ph))) (λ past h. next-walks past) events
