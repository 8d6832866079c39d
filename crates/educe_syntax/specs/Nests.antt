-- Function values that parse nested parts.
use Rattle.std.specs.Prelude.{ℕ, ◌<◌, Result}
use Rattle.std.proofs.Common.{◌+◌, arith}
use Rattle.std.specs.Fn.{Shared}
use Rattle.std.specs.declared.alloc.Global.{Global}
use denote.Ref.{MutBor}
use Rattle.educe_grammar.specs.declared.parse_error.ParseError.{ParseError}
use Rattle.educe_grammar.specs.declared.parse_stream.ParseStream.{ParseStream}
use Rattle.educe_tree.specs.declared.expr.Expr.{Expr}
use Rattle.educe_tree.specs.declared.ty.Ty.{Ty}
use Rattle.educe_syntax.specs.declared.readers.Readers.{Readers}
use Rattle.educe_grammar.specs.Rules.{Part, TreeOf, Typed, types, plains, exprs}
use Rattle.educe_grammar.specs.NotedReads.{readers}
use Rattle.educe_grammar.specs.Steps.{Gives}

-- The calls of a function value that parses a tree with a budget.
abbrev pub Calls : Type 0 → Type 0 → Type 1
Calls F A = Shared F (Global × (MutBor ParseStream × (ℕ × Unit {0}))) (Result A ParseError × (MutBor ParseStream × Unit {0}))

-- The function value parses the part with each budget below the bound.
pub record ReadsBelow {F : Type 0} (p : Part) (calls : Calls F (TreeOf p)) (f : F) (bound : ℕ) : Type 0 where
  pub callable : (alloc : Global) (old : MutBor ParseStream) (budget : ℕ) → budget < bound → calls.pre f (alloc, (old, (budget, tt)))
  pub reads : (alloc : Global) (old new : MutBor ParseStream) (budget : ℕ) (r : Result (TreeOf p) ParseError) → budget < bound
      → calls.post f (alloc, (old, (budget, tt))) (r, (new, tt)) → Gives (readers budget p old.now) r new.now

-- The function values parse the parts with each budget below the bound.
pub record Nests {T P E : Type 0} (type_calls : Calls T Ty) (plain_calls : Calls P Typed) (expr_calls : Calls E Expr) (readers : Readers T P E) (bound : ℕ) : Type 0 where
  pub types : ReadsBelow types type_calls readers.types bound
  pub plains : ReadsBelow plains plain_calls readers.plains bound
  pub exprs : ReadsBelow exprs expr_calls readers.exprs bound

-- A function value that parses its part below a bound does so below a smaller one.
fewer_below : {F : Type 0} {p : Part} {calls : Calls F (TreeOf p)} {f : F} {bound : ℕ} → ReadsBelow p calls f (bound + 1) → ReadsBelow p calls f bound
fewer_below below = record {
  callable = λ alloc old budget less. below.callable alloc old budget (omega arith);
  reads = λ alloc old new budget r less post. below.reads alloc old new budget r (omega arith) post;
}

-- Function values that parse the parts below a bound do so below a smaller one.
pub fewer_nest : {T P E : Type 0} {type_calls : Calls T Ty} {plain_calls : Calls P Typed} {expr_calls : Calls E Expr} {readers : Readers T P E} {bound : ℕ}
    → Nests type_calls plain_calls expr_calls readers (bound + 1) → Nests type_calls plain_calls expr_calls readers bound
fewer_nest nests = record { types = fewer_below nests.types; plains = fewer_below nests.plains; exprs = fewer_below nests.exprs }
