-- What a session answers, put together of what its parts say.
use Rattle.std.proofs.Common.{◌≡◌, ◌∙◌, ◌<◌, ◌≤◌, ℕ, zero, suc, Bool, true, false, List, [], ◌∷◌, Option, Some, None, refl, sym, ap, subst}
use Rattle.std.specs.Prelude.{nat_le, Result, Ok, Err, IfOk, IfErr, slice_get, if◌then◌else◌}
use Rattle.std.proofs.lemmas.Bool.{le-leb, lt-leb}
use Rattle.std.proofs.lemmas.Option.{same_Some}
use Rattle.name_stacks.specs.Names.{newest}
use Rattle.stamped_slots.specs.Slots.{live}
use Rattle.clause_search.specs.declared.Turns.{Turns}
use Rattle.term_table.specs.World.{World}
use Rattle.yices_grammar.specs.declared.Place.{Place}
use Rattle.yices_grammar.specs.Commands as grammar
use Rattle.yices_grammar.specs.Commands.{Action, Command}
use Rattle.yices_commands.specs.declared.command.Action as code
use Rattle.yices_commands.specs.declared.command.Action.TheVariants as action
use Rattle.yices_commands.specs.Plain.{plain_action}
use Rattle.yices_api.specs.Runs.{IsEmpty, Lasts}
use Rattle.yices_api.proofs.Tables.{extends_self}
use Rattle.yices_api.proofs.Lasting.{extends_last, leaves_last, lasts_on}
use Rattle.expression_terms.specs.declared.refusal.Refusal.TheVariants as refusal
use Rattle.expression_terms.specs.declared.refusal.Stop.{Stop}
use Rattle.expression_terms.specs.declared.refusal.Stop.TheVariants as stop
use Rattle.expression_terms.specs.Trees.{Cause}
use Rattle.expression_terms.specs.Building.{AreNamed}
use Rattle.yices_session.specs.declared.refusal.Reply.{Reply}
use Rattle.yices_session.specs.Replies.{reply_text}
use Rattle.yices_session.specs.Built.{is_built}
use Rattle.yices_session.specs.State.{Formula, State, IsStart}
use Rattle.yices_session.specs.Steps.{Does, Step, Checks, Says, Collects, CollectsWhere, Prepares}
use Rattle.yices_session.specs.Refusals.{refused_at, cause_of, refusal_of, IsRefused, IsStopped, Stays}
use Rattle.yices_session.specs.Held.{Held, Stands, AreTruths, IsFormulaBuilt}
use Rattle.yices_session.specs.Answers.{Moves, Halts, Answers, Refuses}

-- a session as it begins
abbrev first_state : World → State
first_state w = record { table = w; names = []; parts = []; lists = [] ∷ []; model = None; core = None }

no_names : (w : World) → w.term_names ≡ [] → AreNamed w [] (record { bound = []; defined = w.term_names })
no_names w none = record {
  known = λ name d h. absurd (cc h);
  truths = λ name d h. absurd (cc h);
  unknown = λ name h. ap (λ ps. newest name ps) none;
}

no_truths : (w : World) → AreTruths w []
no_truths w = record { sorts = λ t under. absurd (cc under.listed.at); closed = λ t under variable. absurd (cc under.listed.at) }

start_stands : (h : Held) → IsEmpty h.env → h.declared ≡ [] → h.parts ≡ [] → h.formulas ≡ [] → h.marks ≡ [] → h.model ≡ None → h.core ≡ None → Stands h (first_state h.env.table)
start_stands h empty declared parts formulas marks model core = record {
  table = refl;
  contexts = empty.contexts;
  declared = rw declared tt;
  parts = sym parts;
  lists = rw (formulas, marks) refl;
  marks = rw marks tt;
  model = rw model tt;
  core = rw core tt;
  named = no_names h.env.table empty.table.term_names;
  trees = λ name d is a inside. absurd (cc is);
  names = λ i n at. absurd (cc at);
  meant = λ i n at. absurd (cc at);
  live = λ i t at. absurd (cc at);
  formulas = λ i j fs f at here. no_formula i j fs f at here;
  truths = no_truths h.env.table;
}
  where
    no_formula : (i j : ℕ) (fs : List Formula) (f : Formula) → slice_get ([] ∷ []) i ≡ Some fs → slice_get fs j ≡ Some f → IsFormulaBuilt h.env.table f
    no_formula zero j fs f at here = absurd (cc (ap (λ xs. slice_get xs j) (same_Some _ _ at) ∙ here))
    no_formula (suc i) j fs f at here = absurd (cc at)

pub starts : (h : Held) → IsEmpty h.env → h.declared ≡ [] → h.parts ≡ [] → h.formulas ≡ [] → h.marks ≡ [] → h.model ≡ None → h.core ≡ None → (s : State) × IsStart s × Stands h s
starts h empty declared parts formulas marks model core =
    (first_state h.env.table, record { table = empty.table; names = refl; parts = refl; lists = refl; model = refl; core = refl }, start_stands h empty declared parts formulas marks model core)

-- where nothing changes, whatever was declared and asserted stays
pub stays_same : (s : State) → Stays s s
stays_same s = record { names = refl; lists = refl; lasts = extends_last s.table s.table (extends_self s.table) }

pub halts_same : (why : State → State → Type 0) (old new : Held) → new ≡ old → ((s : State) → why s s) → Halts why old new
halts_same why old new same holds = subst (Halts why old) (sym same) (record { turns = refl; each = λ s stands. (s, holds s, stays_same s, stands) })

-- memory is refused, and nothing changed
pub no_memory : (cause : State → Option Cause) (old new : Held) (why : Stop) → new ≡ old → why ≡ stop.NoMemory → Halts (λ s next. IsRefused (cause s) next why) old new
no_memory cause old new why same is = halts_same (λ s next. IsRefused (cause s) next why) old new same (λ s. subst (λ e. IsRefused (cause s) s e) (sym is) tt)

-- the reply is that, and nothing changed
pub says_same : (bytes reply : List ℕ) (old new : Held) → new ≡ old → reply ≡ bytes → Moves (λ s says next. Says bytes s says next) old reply new
says_same bytes reply old new same is =
    subst (λ h. Moves (λ s says next. Says bytes s says next) old reply h) (sym same) (record { turns = refl; each = λ s stands. (s, record { says = is; after = refl }, stands) })

-- a command that isn't built is refused at its place
pub not_built : (c : Command) (h : Held) → is_built c ≡ false → Refuses c h (stop.Refused c.place refusal.NotBuilt) h
not_built c h fails =
    halts_same (λ s next. IsStopped s c (stop.Refused c.place refusal.NotBuilt) next) h h refl (λ s. ap (λ b. if b then cause_of s c.place c.action else refused_at c.place refusal.NotBuilt) fails)

-- a collection changes the table alone, and terms last
collected_after : (b : Bool) (s ready : State) → CollectsWhere b s ready → ready ≡ record s { table = ready.table }
collected_after true s ready collects = collects.after
collected_after false s ready is = subst (λ (z : State). z ≡ record s { table = z.table }) (sym is) refl

collected_lasts : (b : Bool) (s ready : State) → CollectsWhere b s ready → Lasts s.table ready.table
collected_lasts true s ready collects = leaves_last s.table ready.table _ collects.leaves
collected_lasts false s ready is = subst (λ (z : State). Lasts s.table z.table) (sym is) (stays_same s).lasts

-- what is wrong with an action has nothing to do with the table
cause_on : (s : State) (w : World) (at : Place) (a : Action) → cause_of (record s { table = w }) at a ≡ cause_of s at a
cause_on s w at (grammar.define_type n) = refl
cause_on s w at (grammar.define_type_as n of) = refl
cause_on s w at (grammar.declare n of) = refl
cause_on s w at (grammar.define n of e) = refl
cause_on s w at (grammar.assert e) = refl
cause_on s w at grammar.check = refl
cause_on s w at (grammar.check_assuming ls) = refl
cause_on s w at grammar.show_unsat_assumptions = refl
cause_on s w at grammar.push = refl
cause_on s w at grammar.pop = refl
cause_on s w at grammar.reset = refl
cause_on s w at grammar.show_model = refl
cause_on s w at (grammar.eval e) = refl
cause_on s w at grammar.show_implicant = refl
cause_on s w at grammar.ef_solve = refl
cause_on s w at (grammar.echo bytes) = refl
cause_on s w at (grammar.include bytes) = refl
cause_on s w at grammar.exit = refl

-- the session is ready for a command: what nothing reaches was freed where the table was full enough
abbrev pub Readies : Held → Held → Type 0
Readies old ready = Moves (λ s says next. Prepares s next) old [] ready

live_same : (old : Held) (s : State) (n : ℕ) (b : Bool) → Stands old s → n ≡ live old.env.table.terms → nat_le 2097152 n ≡ b → nat_le 2097152 (live s.table.terms) ≡ b
live_same old s n b stands count is = ap (λ (w : World). nat_le 2097152 (live w.terms)) stands.table ∙ ap (λ m. nat_le 2097152 m) (sym count) ∙ is

pub ready_collected : (old mid ready : Held) (n : ℕ) → n ≡ live old.env.table.terms → 2097152 ≤ n → Moves (λ s says next. Collects s next) old [] mid → ready ≡ mid → Readies old ready
ready_collected old mid ready n count full collects same = subst (Readies old) (sym same) (record { turns = collects.turns; each = each })
  where
    each : (s : State) → Stands old s → (next : State) × Prepares s next × Stands mid next
    each s stands =
        let one = collects.each s stands in
        (one.0, subst (λ b. CollectsWhere b s one.0) (sym (live_same old s n true stands count (le-leb 2097152 n full))) one.1, one.2)

pub ready_left : (old ready : Held) (n : ℕ) → n ≡ live old.env.table.terms → n < 2097152 → ready ≡ old → Readies old ready
ready_left old ready n count few same = subst (Readies old) (sym same) (record { turns = refl; each = each })
  where
    each : (s : State) → Stands old s → (next : State) × Prepares s next × Stands old next
    each s stands = (s, subst (λ b. CollectsWhere b s s) (sym (live_same old s n false stands count (lt-leb 2097152 n few))) refl, stands)

-- a command that is built is answered by the session that is ready
pub ready_answers : (c : Command) (old ready new : Held) (reply : List ℕ) → is_built c ≡ true → Readies old ready → Moves (λ s says next. Does ready.turns s c.action says next) ready reply new → Answers c old reply new
ready_answers c old ready new reply built readies does = record { turns = does.turns ∙ readies.turns; each = each }
  where
    each : (s : State) → Stands old s → (next : State) × Step old.turns s c reply next × Stands new next
    each s stands =
        let mid = readies.each s stands in
        let one = does.each mid.0 mid.2 in
        (one.0, record { built = built; ready = mid.0; prepares = mid.1; does = subst (λ t. Does t mid.0 c.action reply one.0) readies.turns one.1 }, one.2)

-- or it stops there for the cause that the command has
pub ready_refuses : (c : Command) (old ready new : Held) (why : Stop) → is_built c ≡ true → Readies old ready → Halts (λ s next. IsRefused (cause_of s c.place c.action) next why) ready new → Refuses c old why new
ready_refuses c old ready new why built readies halts = record { turns = halts.turns ∙ readies.turns; each = each }
  where
    each : (s : State) → Stands old s → (next : State) × IsStopped s c why next × Stays s next × Stands new next
    each s stands =
        let mid = readies.each s stands in
        let one = halts.each mid.0 mid.2 in
        let full = nat_le 2097152 (live s.table.terms) in
        let after = collected_after full s mid.0 mid.1 in
        let cause : cause_of mid.0 c.place c.action ≡ refusal_of s c =
        ap (λ z. cause_of z c.place c.action) after ∙ cause_on s mid.0.table c.place c.action ∙ sym (ap (λ b. if b then cause_of s c.place c.action else refused_at c.place refusal.NotBuilt) built) in
        let stays : Stays s one.0 = record {
          names = one.2.names ∙ ap (λ (z : State). z.names) after;
          lists = one.2.lists ∙ ap (λ (z : State). z.lists) after;
          lasts = lasts_on s.table mid.0.table one.0.table (collected_lasts full s mid.0 mid.1) one.2.lasts;
        } in
        (one.0, subst (λ x. IsRefused x one.0 why) cause one.1, stays, one.3)

-- the same for the result of what answers it
pub answers_ok : (c : Command) (old ready new : Held) (r : Result Reply Stop) → is_built c ≡ true → Readies old ready
    → IfOk r (λ x. Moves (λ s says next. Does ready.turns s c.action says next) ready (reply_text x) new) → IfOk r (λ x. Answers c old (reply_text x) new)
answers_ok c old ready new (Ok x) built readies does = ready_answers c old ready new (reply_text x) built readies does
answers_ok c old ready new (Err why) built readies does = does

pub answers_err : (c : Command) (old ready new : Held) (r : Result Reply Stop) → is_built c ≡ true → Readies old ready
    → IfErr r (λ why. Halts (λ s next. IsRefused (cause_of s c.place c.action) next why) ready new) → IfErr r (λ why. Refuses c old why new)
answers_err c old ready new (Ok x) built readies halts = halts
answers_err c old ready new (Err why) built readies halts = ready_refuses c old ready new why built readies halts

-- a check without assumptions, as an action
pub check_does : (turns : Turns) (a : code.Action) (old new : Held) (r : Result Reply Stop) → a ≡ action.Check
    → IfOk r (λ x. Moves (λ s says next. Checks turns s false [] says next) old (reply_text x) new) → IfOk r (λ x. Moves (λ s says next. Does turns s (plain_action a) says next) old (reply_text x) new)
check_does turns a old new r is checks = subst (λ b. IfOk r (λ x. Moves (λ s says next. Does turns s (plain_action b) says next) old (reply_text x) new)) (sym is) checks
