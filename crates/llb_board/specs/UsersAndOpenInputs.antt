-- The users of each vertex (the vertices that have an edge to it), how many inputs of each vertex are not done, and what is downstream of a vertex.
use Rattle.std.specs.Prelude.{◌≡◌, ℕ, zero, suc, ◌+◌, ◌-◌, ◌<◌, ◌≤◌, ◌==◌, Bool, true, false, ◌&&◌, not, List, [], ◌∷◌, ◌++◌, length, get_or}
use Rattle.std.specs.Prelude.{◌⊎◌, All, Contains, Some, slice_get, if◌then◌else◌}
use Rattle.std.specs.List.{list_any}
use Rattle.llb_loader.specs.declared.graph.Edge.{Edge}
use Rattle.llb_loader.specs.declared.graph.Vertex.{Vertex}

-- ---- the users of a vertex: those that have an edge to it

-- whether one of these edges leads to vertex u
abbrev pub leads : List Edge → ℕ → Bool
leads edges u = list_any (λ (e : Edge). e.vertex == u) edges

-- the numbers of the vertices of a list that have an edge to vertex u, if the first vertex of the list has number k
abbrev pub users_from : ℕ → ℕ → List Vertex → List ℕ
users_from u k [] = []
users_from u k (x ∷ xs) = if leads x.inputs u then k ∷ users_from u (k + 1) xs else users_from u (k + 1) xs

-- the users of a vertex, ascending, each once
abbrev pub users_of : List Vertex → ℕ → List ℕ
users_of vs u = users_from u 0 vs

-- ---- the inputs that are not done

-- how many numbers below a bound pass a test
abbrev pub count_below : (ℕ → Bool) → ℕ → ℕ
count_below p zero = 0
count_below p (suc n) = (if p n then 1 else 0) + count_below p n

-- whether vertex u is not done and vertex x has an edge to u
abbrev pub waits_for : (ℕ → Bool) → Vertex → ℕ → Bool
waits_for done x u = leads x.inputs u && not (done u)

-- the number of vertices that are not done and to which vertex x has an edge
abbrev pub open_inputs : List Vertex → (ℕ → Bool) → Vertex → ℕ
open_inputs vs done x = count_below (waits_for done x) (length vs)

-- every edge of a vertex leads to a vertex with a lower number than that vertex
abbrev pub AreBelow : List Vertex → Type 0
AreBelow vs = (v : ℕ) (x : Vertex) → slice_get vs v ≡ Some x → All (λ (e : Edge). e.vertex < v) x.inputs

-- v is appended to the list of users of each vertex that these edges lead to; `count` is the number of these vertices
pub record IsEntered (edges : List Edge) (v : ℕ) (old new : List (List ℕ)) (count : ℕ) : Type 0 where
  pub same : length new ≡ length old
  pub lists : (u : ℕ) → u < length old → get_or new u [] ≡ (if leads edges u then get_or old u [] ++ v ∷ [] else get_or old u [])
  pub counted : count ≡ count_below (leads edges) (length old)

-- the links: for each vertex a list of its users, and a count of its open inputs (the vertices that are not done and to which it has an edge)
pub record Linked : Type 0 where
  pub users : List (List ℕ)
  pub counts : List ℕ

-- the list `reached` (it takes the vertices that are marked when a mark spreads downstream) is empty, and has room for `count` numbers
pub record HasRoom (count : ℕ) (reached : List ℕ) (room : ℕ) : Type 0 where
  pub none : reached ≡ []
  pub fits : count ≤ room

-- the lists of users and the counts of inputs that are not done are right for these vertices; `done` says which of the vertices are done
pub record IsLinked (vs : List Vertex) (done : ℕ → Bool) (l : Linked) : Type 0 where
  pub same_users : length l.users ≡ length vs
  pub same_counts : length l.counts ≡ length vs
  pub users_are : (u : ℕ) → u < length vs → get_or l.users u [] ≡ users_of vs u
  pub counts_are : (v : ℕ) (x : Vertex) → slice_get vs v ≡ Some x → get_or l.counts v 0 ≡ open_inputs vs done x

-- the users of vertex u
abbrev pub users_at : Linked → ℕ → List ℕ
users_at l u = get_or l.users u []

-- whether, by the counts in the links, all inputs of vertex v are done; false if there is no such vertex
abbrev pub has_inputs : Linked → ℕ → Bool
has_inputs l v = get_or l.counts v 1 == 0

-- how often a number occurs in a list
abbrev pub times : ℕ → List ℕ → ℕ
times x [] = 0
times x (y ∷ ys) = (if y == x then 1 else 0) + times x ys

-- the count of each vertex is lowered by the number of times that the vertex occurs in the list of users
abbrev pub AreLowered : List ℕ → List ℕ → List ℕ → Type 0
AreLowered users old new = (length new ≡ length old) × ((x : ℕ) → get_or new x 0 ≡ get_or old x 0 - times x users)

-- the count of each vertex is raised by the number of times that the vertex occurs in the list of users
abbrev pub AreRaised : List ℕ → List ℕ → List ℕ → Type 0
AreRaised users old new = (length new ≡ length old) × ((x : ℕ) → x < length old → get_or new x 0 ≡ get_or old x 0 + times x users)

-- ---- marks that spread from a vertex to those downstream

-- whether vertex x is marked
abbrev pub is_marked : List Bool → ℕ → Bool
is_marked marks x = get_or marks x false

-- the set is closed: if it contains a vertex, it contains all users of that vertex
abbrev pub IsClosed : List (List ℕ) → (ℕ → Bool) → Type 0
IsClosed users p = (y x : ℕ) → p y ≡ true → Contains (get_or users y []) x → p x ≡ true

-- how many vertices are not marked
abbrev pub unmarked : List Bool → ℕ
unmarked [] = 0
unmarked (b ∷ bs) = (if b then 0 else 1) + unmarked bs

-- all of these users are marked now; the users that were not marked before are appended to the list `reached`; no other vertex is newly marked
pub record Visits (users : List ℕ) (old new : List Bool) (reached reached_new : List ℕ) : Type 0 where
  pub same : length new ≡ length old
  pub more : List ℕ
  pub is : reached_new ≡ reached ++ more
  pub from : (x : ℕ) → Contains more x → Contains users x
  pub kept : (x : ℕ) → is_marked old x ≡ true → is_marked new x ≡ true
  pub all : (x : ℕ) → Contains users x → is_marked new x ≡ true
  pub only : (x : ℕ) → is_marked new x ≡ true → (is_marked old x ≡ true) ⊎ Contains more x
  pub count : unmarked new + length more ≡ unmarked old

-- if the set of vertices marked in `old` is closed (`IsClosed`), the set marked in `new` is the least closed set that contains v and all marked in `old`
pub record Spreads (users : List (List ℕ)) (v : ℕ) (old new : List Bool) : Type 0 where
  pub same : length new ≡ length old
  pub kept : (x : ℕ) → is_marked old x ≡ true → is_marked new x ≡ true
  pub here : is_marked new v ≡ true
  pub closed : IsClosed users (is_marked old) → IsClosed users (is_marked new)
  pub least : (p : ℕ → Bool) → IsClosed users p → ((x : ℕ) → is_marked old x ≡ true → p x ≡ true) → p v ≡ true → (x : ℕ) → is_marked new x ≡ true → p x ≡ true
