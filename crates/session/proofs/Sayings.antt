-- One command more.
use Rattle.std.proofs.Common.{◌≡◌, ℕ, ◌+◌, ◌-◌, ◌<◌, true, List, ◌∷◌, ◌++◌, length, get_or, take, drop, Some, Option, sym, ap, ◌∙◌, add-one, arith, drop-cons}
use Rattle.std.proofs.lemmas.Slice.{between_to_end}
use Rattle.std.specs.Borrow.{Bor}
use Rattle.buffers.specs.declared.Buffers.{Buffers}
use Rattle.policy.specs.declared.any.AnyPolicy.{AnyPolicy}
use Rattle.yard_steps.specs.Model.{new_yard}
use Rattle.yard_script.specs.declared.commands.Command.{Command}
use Rattle.yard_script.specs.declared.commands.Command.TheVariants as cmd
use Rattle.session.specs.Said.{Said}
use Rattle.session.specs.Performed.{State, under_yard, answers_of}
use Rattle.session.specs.Views.{state_of, following}

-- the command at a place stands before those after it
next_command : (cs : List Command) (i : ℕ) (c : Command) → i < length cs → c ≡ get_or cs i c → c ∷ drop (i + 1) cs ≡ drop i cs
next_command cs i c h e = ap (λ x. x ∷ drop (i + 1) cs) e ∙ sym (drop-cons cs i c h ∙ ap (λ n. get_or cs i c ∷ drop n cs) (sym (add-one i)))

pub yard_more : (s z : State) (c : Command) (n : ℕ) (ts : List Said) → c ≡ cmd.Yard n → z ≡ under_yard s n → (cs : List Command) → ts ++ answers_of z cs ≡ ts ++ answers_of s (c ∷ cs)
yard_more s z c n ts h e cs = ap (λ x. ts ++ answers_of x cs) e ∙ ap (λ x. ts ++ answers_of s (x ∷ cs)) (sym h)

-- what was said before the first yard, and what is said under it
pub then_under : (o : Option (ℕ × Bor (List Command))) (n : ℕ) (rest : Bor (List Command)) (memory : Buffers) (policy : AnyPolicy) (code : List ℕ) (ts us all : List Said) → o ≡ Some (n, rest) →
    us ≡ ts ++ answers_of (state_of memory policy code true (new_yard code n)) rest.now → ts ++ following o memory policy code ≡ all → us ≡ all
then_under o n rest memory policy code ts us all e h g = h ∙ (ap (λ x. ts ++ following x memory policy code) (sym e) ∙ g)

-- the command at a place was performed
pub loop_more : (cs : List Command) (i : ℕ) (c : Command) (f g : List Command → List Said) (all : List Said) → i < length cs → c ≡ get_or cs i c →
    ((ds : List Command) → g ds ≡ f (c ∷ ds)) → f (drop i cs) ≡ all → g (drop (i + 1) cs) ≡ all
loop_more cs i c f g all h is e inv = e (drop (i + 1) cs) ∙ (ap f (next_command cs i c h is) ∙ inv)

-- the slice from a place on
pub from_place : (cs : List Command) (i : ℕ) → take (length cs - i) (drop i cs) ≡ drop i cs
from_place cs i = between_to_end cs i (length cs) (omega arith)
