-- What a form makes of its parts: a value with its kind or a condition, where the parts fit it.
use Rattle.std.specs.Prelude.{ℕ, Bool, true, false, ◌&&◌, if◌then◌else◌, Option, Some, None, Ok, List, [], ◌∷◌, ◌++◌}
use Rattle.event_value.specs.declared.kind.Kind.{Kind}
use Rattle.event_value.specs.declared.kind.Kind.TheVariants as kind
use Rattle.event_value.specs.declared.value.Value.TheVariants as literal
use Rattle.query_plan.specs.declared.expr.Rel.{Rel}
use Rattle.query_plan.specs.declared.expr.Rel.TheVariants as rel
use Rattle.query_plan.specs.declared.expr.Op.{Op}
use Rattle.query_plan.specs.declared.expr.Op.TheVariants as op
use Rattle.query_plan.specs.declared.expr.Expr.{Expr}
use Rattle.query_plan.specs.declared.expr.Expr.TheVariants as expr
use Rattle.query_plan.specs.declared.expr.Expr.{out-Expr}
use Rattle.query_plan.specs.declared.expr.Cond.TheOpen.{Expr-F}
use Rattle.query_plan.specs.declared.expr.Cond.{Cond}
use Rattle.query_plan.specs.declared.expr.Cond.TheVariants as cond
use Rattle.query_plan.specs.declared.expr.Branch.{Branch}
use Rattle.query_forms.specs.declared.fault.Cause.TheVariants as cause
use Rattle.query_forms.specs.declared.form.Form.{Form}
use Rattle.query_forms.specs.declared.form.Form.TheVariants as form
use Rattle.query_forms.specs.declared.sense.Sense.{Sense}
use Rattle.query_forms.specs.declared.sense.Sense.TheVariants.{Value as Val, Condition}
use Rattle.query_forms.specs.declared.sense.Valued.{Valued}
use Rattle.query_forms.specs.Faults.{Checked, refused}
use Rattle.query_forms.specs.Kinds.{is_number, is_of, is_comparable, is_castable, mix}

abbrev pub valued : Expr → Option Kind → Valued
valued e k = record { expr = e; kind = k }

-- what a step makes of a part that fits
abbrev pub after : {A B : Type 0} → Option A → (A → Option B) → Option B
after None f = None
after (Some a) f = f a

-- a condition, or the opposite of it
abbrev pub perhaps_not : Bool → Cond → Sense
perhaps_not negated c = Condition (if negated then cond.Not c else c)

-- ---- conditions

unfoldable pub negation : Sense → Option Sense
negation (Condition c) = Some (Condition (cond.Not c))
negation (Val v) = None

unfoldable pub conjunction : Sense → Sense → Option Sense
conjunction (Condition a) (Condition b) = Some (Condition (cond.And a b))
conjunction (Condition a) (Val v) = None
conjunction (Val v) b = None

unfoldable pub disjunction : Sense → Sense → Option Sense
disjunction (Condition a) (Condition b) = Some (Condition (cond.Or a b))
disjunction (Condition a) (Val v) = None
disjunction (Val v) b = None

-- two values that can be compared, in a relation
abbrev pub compared_values : Rel → Valued → Valued → Option Cond
compared_values r a b =
    if is_comparable a.kind b.kind then Some (cond.Compare r a.expr b.expr) else None

abbrev pub compared_with : Rel → Valued → Sense → Option Cond
compared_with r a (Val b) = compared_values r a b
compared_with r a (Condition c) = None

abbrev pub compared : Rel → Sense → Sense → Option Cond
compared r (Val a) b = compared_with r a b
compared r (Condition c) b = None

unfoldable pub comparison : Rel → Sense → Sense → Option Sense
comparison r a b = after (compared r a b) (λ c. Some (Condition c))

unfoldable pub null_test : Bool → Sense → Option Sense
null_test negated (Val v) = Some (perhaps_not negated (cond.IsNull v.expr))
null_test negated (Condition c) = None

-- between two values: at least the one and at most the other
unfoldable pub between : Bool → Sense → Sense → Sense → Option Sense
between negated v low high =
    after (compared rel.Ge v low) (λ c.
    after (compared rel.Le v high) (λ d. Some (perhaps_not negated (cond.And c d))))

-- the pattern is a text that is written out
abbrev pub pattern_in : Expr-F Cond Expr Branch → Option (List ℕ)
pattern_in (Expr-F.Lit (literal.Text t)) = Some t
pattern_in _ = None

abbrev pub pattern_of : Sense → Option (List ℕ)
pattern_of (Val v) = pattern_in (out-Expr v.expr)
pattern_of (Condition c) = None

unfoldable pub likeness : Bool → Sense → Sense → Option Sense
likeness negated (Condition c) pattern = None
likeness negated (Val v) pattern =
    if is_of kind.Text v.kind
    then after (pattern_of pattern) (λ t. Some (perhaps_not negated (cond.Like v.expr t)))
    else None

-- ---- values

-- there is a cast from its kind
unfoldable pub conversion : Kind → Sense → Option Sense
conversion to (Val v) =
    if is_castable v.kind to then Some (Val (valued (expr.Cast v.expr to) (Some to))) else None
conversion to (Condition c) = None

-- a bigint where the common kind is fixed
abbrev pub is_widened : Option Kind → Option Kind → Bool
is_widened (Some kind.Fixed) (Some kind.Big) = true
is_widened _ _ = false

-- a bigint among fixed values is cast to fixed
abbrev pub widened : Option Kind → Valued → Expr
widened common v = if is_widened common v.kind then expr.Cast v.expr kind.Fixed else v.expr

abbrev pub kind_of : Sense → Option (Option Kind)
kind_of (Val v) = Some v.kind
kind_of (Condition c) = None

abbrev pub expr_of : Option Kind → Sense → Option Expr
expr_of common (Val v) = Some (widened common v)
expr_of common (Condition c) = None

-- the kinds so far with those of further values, where all are values
unfoldable pub kinds_from : List (Option Kind) → List Sense → Option (List (Option Kind))
kinds_from so_far [] = Some so_far
kinds_from so_far (s ∷ more) = after (kind_of s) (λ k. kinds_from (so_far ++ k ∷ []) more)

-- the expressions so far with those of further values
unfoldable pub exprs_from : Option Kind → List Expr → List Sense → Option (List Expr)
exprs_from common so_far [] = Some so_far
exprs_from common so_far (s ∷ more) =
    after (expr_of common s) (λ e. exprs_from common (so_far ++ e ∷ []) more)

-- one kind for all
unfoldable pub mix_from : Option Kind → List (Option Kind) → Option (Option Kind)
mix_from common [] = Some common
mix_from common (k ∷ ks) = after (mix common k) (λ m. mix_from m ks)

unfoldable pub are_texts : List (Option Kind) → Bool
are_texts [] = true
are_texts (k ∷ ks) = is_of kind.Text k && are_texts ks

-- bigint with bigint, or fixed where one side is fixed
abbrev pub number_kind : Option Kind → Option Kind → Option (Option Kind)
number_kind j k = if is_number j && is_number k then mix j k else None

-- the kind of an operation, where its operands' kinds fit
abbrev pub kind_with_one : Op → Option Kind → Option (Option Kind)
kind_with_one op.Neg k = if is_number k then Some k else None
kind_with_one op.Abs k = if is_number k then Some k else None
kind_with_one (op.DatePart p) k = if is_of kind.Moment k then Some (Some kind.Big) else None
kind_with_one op.Len k = if is_of kind.Text k then Some (Some kind.Big) else None
kind_with_one op.Lower k = if is_of kind.Text k then Some (Some kind.Text) else None
kind_with_one op.Upper k = if is_of kind.Text k then Some (Some kind.Text) else None
kind_with_one _ k = None

abbrev pub kind_with_two : Op → Option Kind → Option Kind → Option (Option Kind)
kind_with_two op.Add j k = number_kind j k
kind_with_two op.Sub j k = number_kind j k
kind_with_two op.Mul j k = number_kind j k
kind_with_two op.Div j k = number_kind j k
kind_with_two op.Rem j k =
    if is_of kind.Big j && is_of kind.Big k then Some (Some kind.Big) else None
kind_with_two (op.DateAdd p) j k =
    if is_of kind.Big j && is_of kind.Moment k then Some (Some kind.Moment) else None
kind_with_two (op.DateDiff p) j k =
    if is_of kind.Moment j && is_of kind.Moment k then Some (Some kind.Big) else None
kind_with_two _ j k = None

abbrev pub kind_with_three : Op → Option Kind → Option Kind → Option Kind → Option (Option Kind)
kind_with_three op.Substring j k l =
    if is_of kind.Text j && is_of kind.Big k && is_of kind.Big l
    then Some (Some kind.Text) else None
kind_with_three _ j k l = None

abbrev pub kind_with_operands : Op → List (Option Kind) → Option (Option Kind)
kind_with_operands o (k ∷ []) = kind_with_one o k
kind_with_operands o (j ∷ k ∷ []) = kind_with_two o j k
kind_with_operands o (j ∷ k ∷ l ∷ []) = kind_with_three o j k l
kind_with_operands o _ = None

abbrev pub kind_of_texts : List (Option Kind) → Option (Option Kind)
kind_of_texts [] = None
kind_of_texts (k ∷ ks) = if are_texts (k ∷ ks) then Some (Some kind.Text) else None

abbrev pub kind_of_choices : List (Option Kind) → Option (Option Kind)
kind_of_choices [] = None
kind_of_choices (k ∷ ks) = mix_from None (k ∷ ks)

unfoldable pub operation_kind : Op → List (Option Kind) → Option (Option Kind)
operation_kind op.Concat ks = kind_of_texts ks
operation_kind op.Coalesce ks = kind_of_choices ks
operation_kind o ks = kind_with_operands o ks

-- the kind to which bigint parts of an operation are cast: COALESCE alone casts
abbrev pub widening : Op → Option Kind → Option Kind
widening op.Coalesce k = k
widening _ k = None

abbrev pub operation_of : Op → Option Kind → List Sense → Option Sense
operation_of o k parts =
    after (exprs_from (widening o k) [] parts) (λ es. Some (Val (valued (expr.Apply o es) k)))

unfoldable pub operation : Op → List Sense → Option Sense
operation o parts =
    after (kinds_from [] parts) (λ ks. after (operation_kind o ks) (λ k. operation_of o k parts))

-- for private clauses: an operation on two values, where their kinds fit it
abbrev pub pair_applied : Op → Valued → Valued → Option Kind → Sense
pair_applied o a b k =
    Val (valued (expr.Apply o (widened (widening o k) a ∷ widened (widening o k) b ∷ [])) k)

abbrev pub operation_of_values : Op → Valued → Valued → Option Sense
operation_of_values o a b =
    after (operation_kind o (a.kind ∷ b.kind ∷ [])) (λ k. Some (pair_applied o a b k))

-- ---- a value among others

abbrev pub comparable_expr : Option Kind → Sense → Option Expr
comparable_expr k (Val v) = if is_comparable k v.kind then Some v.expr else None
comparable_expr k (Condition c) = None

unfoldable pub comparable_from : Option Kind → List Expr → List Sense → Option (List Expr)
comparable_from k so_far [] = Some so_far
comparable_from k so_far (s ∷ more) =
    after (comparable_expr k s) (λ e. comparable_from k (so_far ++ e ∷ []) more)

abbrev pub membership_of : Bool → Sense → List Sense → Option Sense
membership_of negated (Condition c) items = None
membership_of negated (Val v) items =
    after (comparable_from v.kind [] items) (λ es. Some (perhaps_not negated (cond.OneOf v.expr es)))

unfoldable pub membership : Bool → List Sense → Option Sense
membership negated [] = None
membership negated (s ∷ items) = membership_of negated s items

-- ---- choices: parts that stand behind WHEN and THEN in turn, and perhaps one behind ELSE

-- one kind for the values behind THEN and ELSE
unfoldable pub choice_kind : Option Kind → List Sense → Option (Option Kind)
choice_kind common [] = Some common
choice_kind common (otherwise ∷ []) = after (kind_of otherwise) (λ k. mix common k)
choice_kind common (when ∷ value ∷ more) =
    after (kind_of value) (λ k. after (mix common k) (λ m. choice_kind m more))

-- the condition of a WHEN: itself, or that it equals what stands behind CASE
unfoldable pub test_of : Option Sense → Sense → Option Cond
test_of None (Condition c) = Some c
test_of None (Val v) = None
test_of (Some subject) when = compared rel.Eq subject when

abbrev pub branch : Cond → Expr → Branch
branch c e = record { cond = c; value = e }

unfoldable pub branch_of : Option Sense → Option Kind → Sense → Sense → Option Branch
branch_of subject common when value =
    after (test_of subject when) (λ c. after (expr_of common value) (λ e. Some (branch c e)))

-- the branches so far with the further ones, and what stands behind ELSE
abbrev pub Choice : Type 0
Choice = List Branch × Option Expr

unfoldable pub choice_from : Option Sense → Option Kind → List Branch → List Sense → Option Choice
choice_from subject common so_far [] = Some (so_far, None)
choice_from subject common so_far (otherwise ∷ []) =
    after (expr_of common otherwise) (λ e. Some (so_far, Some e))
choice_from subject common so_far (when ∷ value ∷ more) =
    after (branch_of subject common when value) (λ b.
    choice_from subject common (so_far ++ b ∷ []) more)

abbrev pub choice_value : Option Kind → Choice → Sense
choice_value common c = Val (valued (expr.Choose c.0 c.1) common)

unfoldable pub choice : Option Sense → List Sense → Option Sense
choice subject parts =
    after (choice_kind None parts) (λ common.
    after (choice_from subject common [] parts) (λ c. Some (choice_value common c)))

abbrev pub choice_by_subject : List Sense → Option Sense
choice_by_subject [] = None
choice_by_subject (subject ∷ parts) = choice (Some subject) parts

-- ---- all forms

abbrev pub made_of_one : Form → Sense → Option Sense
made_of_one form.Not a = negation a
made_of_one (form.IsNull negated) a = null_test negated a
made_of_one (form.Cast to) a = conversion to a
made_of_one _ a = None

abbrev pub made_of_two : Form → Sense → Sense → Option Sense
made_of_two form.Or a b = disjunction a b
made_of_two form.And a b = conjunction a b
made_of_two (form.Compare r) a b = comparison r a b
made_of_two (form.Like negated) a b = likeness negated a b
made_of_two _ a b = None

abbrev pub made_of_three : Form → Sense → Sense → Sense → Option Sense
made_of_three (form.Between negated) a b c = between negated a b c
made_of_three _ a b c = None

abbrev pub made_of : Form → List Sense → Option Sense
made_of f (a ∷ []) = made_of_one f a
made_of f (a ∷ b ∷ []) = made_of_two f a b
made_of f (a ∷ b ∷ c ∷ []) = made_of_three f a b c
made_of f _ = None

-- what a form makes of its parts
unfoldable pub made : Form → List Sense → Option Sense
made (form.In negated) parts = membership negated parts
made (form.Case false) parts = choice None parts
made (form.Case true) parts = choice_by_subject parts
made (form.Apply o) parts = operation o parts
made f parts = made_of f parts

-- the same, or that the kinds don't fit
abbrev pub or_unfit : ℕ → Option Sense → Checked Sense
or_unfit place None = refused place cause.Kind
or_unfit place (Some s) = Ok s

-- the same, where the form is built
unfoldable pub shaped : ℕ → Form → List Sense → Checked Sense
shaped place form.Unknown parts = refused place cause.Unsupported
shaped place f parts = or_unfit place (made f parts)
