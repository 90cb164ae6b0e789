-- The states that a register represents, with a batch open or not.
use Rattle.olr_register.proofs.Common.{◌≡◌, List, Option, Some, None, sym, subst, IfSome, Map, RoadMap, Work, Content}
use Rattle.olr_register.proofs.Common.{IsContent, Change, State, Item, AreEncodings, Registered, content_on, accepted_map}
use Rattle.olr_register.proofs.Common.{state_of, IsHeld, IsStateRight, IsRegister, Margin, items, KeepsMargin, RepresentsBatch}
use Rattle.olr_register.proofs.Common.{Inside, Outcome, RegisterState, IsBatchOf, Represents, Open}

abbrev pub state : Content → Option (List Change) → State
state c o = record { content = c; batch = o }

abbrev pub register_of : Content → Option Outcome → Work → Registered
register_of c o w = record { state = record { content = c; batch = o }; work = w }

-- by the fields of the struct
abbrev pub of_parts : Margin → RoadMap → List Item → Option Open → Work → Registered
of_parts g roads is b w = record { state = state_of g roads is b; work = w }

-- what is true of a register, on the same map and list with another batch
pub register_moved : (g : Margin) (old new : RoadMap) (is : List Item) (o p : Option Open) →
    accepted_map new p ≡ accepted_map old o → IfSome p (IsHeld new is) → IfSome p (KeepsMargin g) → IsRegister g old is o →
    IsRegister g new is p
register_moved g old new is o p same held margin h = record {
  content = subst (λ (M : Map). IsContent (content_on g M is)) (sym same) h.content;
  encoded = subst (λ (M : Map). AreEncodings g M is) (sym same) h.encoded;
  held = held;
  margin = margin;
}

-- what is true of a register, in terms of what its batch is
pub right_as : (r : Inside) {o : Option Open} → r.batch ≡ o →
    IsStateRight r.margin r.roads (items r.paths) r.batch r.searches.bounds → IsStateRight r.margin r.roads (items r.paths) o r.searches.bounds
right_as r is = subst (λ (o : Option Open). IsStateRight r.margin r.roads (items r.paths) o r.searches.bounds) is

-- P holds of each state that they represent
abbrev pub InStates : Content → Option Outcome → (State → Type 0) → Type 0
InStates c None P = P (state c None)
InStates c (Some b) P = (xs : List Change) → IsBatchOf c b xs → P (state c (Some xs))

pub in_states : (k : RegisterState) (P : State → Type 0) → InStates k.content k.batch P → (s : State) → Represents k s →
    P s
in_states k P p s h = subst (λ (d : Content). P (state d s.batch)) h.0 (by k.batch s.batch h.1 p) where
  by : (b : Option Outcome) (o : Option (List Change)) → RepresentsBatch k.content b o → InStates k.content b P →
      P (state k.content o)
  by None None i p = p
  by None (Some xs) i p = absurd i
  by (Some b) None i p = absurd i
  by (Some b) (Some xs) i p = p xs i
