-- Grounded points, paths and cycles.
use Rattle.std.proofs.Common.{ℕ, List, [], ◌∷◌, ◌++◌}
use Rattle.graph_core.specs.Graph.{Graph, HasEdge, IsPath}
use Rattle.graph_core.specs.Cycle.{IsGrounded, grounded, IsEndless}

pub grounded_edge : (graph : Graph) (a b : ℕ) → IsGrounded graph a → HasEdge graph a b → IsGrounded graph b
grounded_edge graph _ b (grounded a f) edge = f b edge

pub grounded_path : (graph : Graph) (a : ℕ) (rest : List ℕ) (b : ℕ) → IsGrounded graph a → IsPath graph a rest b → IsGrounded graph b
grounded_path graph a [] b ground path = grounded_edge graph a b ground path
grounded_path graph a (c ∷ cs) b ground path = grounded_path graph c cs b (grounded_edge graph a c ground path.0) path.1

pub path_more : (graph : Graph) (a : ℕ) (rest : List ℕ) (b c : ℕ) → IsPath graph a rest b → HasEdge graph b c → IsPath graph a (rest ++ b ∷ []) c
path_more graph a [] b c path edge = (path, edge)
path_more graph a (d ∷ ds) b c path edge = (path.0, path_more graph d ds b c path.1 edge)

-- no cycle goes through a grounded point
pub grounded_no_cycle : (graph : Graph) (a : ℕ) → IsGrounded graph a → (rest : List ℕ) → IsPath graph a rest a → ⊥
grounded_no_cycle graph _ (grounded a f) [] path = grounded_no_cycle graph a (f a path) [] path
grounded_no_cycle graph _ (grounded a f) (c ∷ cs) path = grounded_no_cycle graph c (f c path.0) (cs ++ a ∷ []) (path_more graph c cs a c path.1 path.0)

pub endless_path : (graph : Graph) (a : ℕ) (rest : List ℕ) (b : ℕ) → IsPath graph a rest b → IsEndless graph b → IsEndless graph a
endless_path graph a rest b path endless ground = endless (grounded_path graph a rest b ground path)
