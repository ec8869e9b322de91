-- Operations that are too wide, as a simplex answers them.
use Rattle.std.proofs.Common.{◌≡◌, ◌<◌, false, List, length, sym, subst}
use Rattle.rationals.specs.Delta.{Delta}
use Rattle.fraction128.specs.declared.errors.Wide.{Wide}
use Rattle.simplex_logic.specs.Forms.{Form, row_of}
use Rattle.simplex_logic.specs.Quantities.{Basis, Quantity, Vertex}
use Rattle.simplex_table.specs.View.{State, Sound, WideIn, row_at}
use Rattle.simplex_table.specs.Causes.{OnWide, op_fits}
use Rattle.simplex_table.specs.declared.error.TableauError.{TableauError}
use Rattle.simplex_bounds.specs.declared.Bound.{Bound}
use Rattle.simplex_core.specs.declared.wide.WideAt.{WideAt}
use Rattle.simplex_core.specs.declared.wide.Stop.{Stop}
use Rattle.simplex_core.specs.declared.wide.Stop.TheVariants.{Wide as WideStop, NoMemory as MemoryStop}
use Rattle.std.specs.Prelude.{Contains}
use Rattle.rationals.specs.Rational.{ℚ}
use Rattle.fraction128.specs.declared.infinitesimal.Delta.{Delta as Fractions}
use Rattle.simplex_logic.proofs.Quantity.{tabled_basis}
use Rattle.simplex_core.specs.Solving.{IsFound}
use Rattle.simplex_core.specs.Concrete.{IsBoundWide, IsSomeValueWide, IsStepOf}
use Rattle.simplex_core.proofs.ConcreteWide.{bound_operands, value_operands}
use Rattle.simplex_core.specs.Wides.{values_of, IsWide, OnStop, StopsIn, ErrorStopsIn, Known, KnownOr}
use Rattle.simplex_core.specs.Checking.{IsWideAtVertex, IsWideAnyway}

pub wide_of : (s : State) (handed : Form → Type 0) (bounds : List Bound) (w : WideAt) → w.basis ≡ s.columns → WideIn s handed (values_of bounds) w.wide → IsWide s.rows handed bounds w
wide_of s handed bounds w e h = record {
  basis = subst (λ B. Basis (row_of s.rows) (length s.rows) B) (sym e) h.basis;
  left = subst (λ B. Quantity (row_of s.rows) (length s.rows) handed B (values_of bounds) w.wide.left) (sym e) h.left;
  right = subst (λ B. Quantity (row_of s.rows) (length s.rows) handed B (values_of bounds) w.wide.right) (sym e) h.right;
  wide = h.wide;
}

pub on_stop : (P Q : WideAt → Type 0) (stop : Stop) → ((w : WideAt) → P w → Q w) → OnStop P stop → OnStop Q stop
on_stop P Q (WideStop w) f h = f w h
on_stop P Q MemoryStop f h = h

pub error_stops : (s : State) (error : TableauError) (P : Wide → Type 0) (Q : WideAt → Type 0) (stop : Stop) → ErrorStopsIn s error stop → OnWide P error → ((w : WideAt) → w.basis ≡ s.columns → Sound s → P w.wide → Q w) → OnStop Q stop
error_stops s error P Q (WideStop w) h k f = f w h.0 h.2 (subst (OnWide P) h.1 k)
error_stops s error P Q MemoryStop h k f = tt

pub vertex_stops : (s : State) (y : List Delta) (error : TableauError) (stop : Stop) → ErrorStopsIn s error stop → OnWide (λ w. (C : List Delta) → Vertex s.columns C y → WideIn s (Known s.rows) C w) error
    → OnStop (IsWideAtVertex s y) stop
vertex_stops s y error stop h k =
    error_stops s error (λ w. (C : List Delta) → Vertex s.columns C y → WideIn s (Known s.rows) C w) (IsWideAtVertex s y) stop h k (λ w e k f bounds v. wide_of s (Known s.rows) bounds w e (f (values_of bounds) v))

pub pivot_stops : (s s' : State) (error : TableauError) (stop : Stop) → s' ≡ s → ErrorStopsIn s' error stop → OnWide (λ w. (C : List Delta) → WideIn s (Known s.rows) C w) error → OnStop (IsWideAnyway s.rows) stop
pivot_stops s s' error stop q h k =
    error_stops s error (λ w. (C : List Delta) → WideIn s (Known s.rows) C w) (IsWideAnyway s.rows) stop (subst (λ (z : State). ErrorStopsIn z error stop) q h) k
    (λ w e k f bounds. wide_of s (Known s.rows) bounds w e (f (values_of bounds)))

pub row_stops : (s s' : State) (f : Form) (bounds : List Bound) (error : TableauError) (stop : Stop) → s' ≡ s → ErrorStopsIn s' error stop → OnWide (λ w. (C : List Delta) → WideIn s (KnownOr s.rows f) C w) error
    → OnStop (IsWide s.rows (KnownOr s.rows f) bounds) stop
row_stops s s' f bounds error stop q h k =
    error_stops s error (λ w. (C : List Delta) → WideIn s (KnownOr s.rows f) C w) (IsWide s.rows (KnownOr s.rows f) bounds) stop (subst (λ (z : State). ErrorStopsIn z error stop) q h) k
    (λ w e k g. wide_of s (KnownOr s.rows f) bounds w e (g (values_of bounds)))

pub wide_operands : (s : State) (bounds : List Bound) (w : WideAt) → Sound s → w.basis ≡ s.columns
    → Quantity (row_of s.rows) (length s.rows) (Known s.rows) s.columns (values_of bounds) w.wide.left × Quantity (row_of s.rows) (length s.rows) (Known s.rows) s.columns (values_of bounds) w.wide.right × (op_fits w.wide.op w.wide.left w.wide.right ≡ false)
    → IsWide s.rows (Known s.rows) bounds w
wide_operands s bounds w o e h = wide_of s (Known s.rows) bounds w e (record { basis = tabled_basis (row_of s.rows) (length s.rows) s.columns (row_at s.table) o.tabled o.many; left = h.0; right = h.1; wide = h.2 })

pub step_stops : (s : State) (bounds : List Bound) (values : List Fractions) (wide : Wide) (stop : Stop) → IsFound s bounds values → ((b : Bound) → Contains bounds b → b.variable < length s.rows) → StopsIn s wide stop → IsBoundWide bounds values wide
    → OnStop (IsWide s.rows (Known s.rows) bounds) stop
step_stops s bounds values wide stop f k h g =
    on_stop (λ w. (w.basis ≡ s.columns) × (w.wide ≡ wide) × Sound s) (IsWide s.rows (Known s.rows) bounds) stop
    (λ w q. wide_operands s bounds w q.2 q.0 (bound_operands s bounds values q.2 f k w.wide (subst (λ z. IsBoundWide bounds values z) (sym q.1) g))) h

pub values_stop : (s : State) (bounds : List Bound) (values : List Fractions) (e : ℚ) (error : TableauError) (stop : Stop) → IsFound s bounds values → ((b : Bound) → Contains bounds b → b.variable < length s.rows) → IsStepOf bounds values e
    → ErrorStopsIn s error stop → OnWide (IsSomeValueWide e values (length s.rows)) error → OnStop (IsWide s.rows (Known s.rows) bounds) stop
values_stop s bounds values e error stop f k p h g =
    error_stops s error (IsSomeValueWide e values (length s.rows)) (IsWide s.rows (Known s.rows) bounds) stop h g
    (λ w q o d. wide_operands s bounds w o q (value_operands s bounds values o f k e w.wide p d))
