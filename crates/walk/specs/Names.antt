-- The names of the fragments of a document.
pub use Rattle.fragment_graph.specs.Kept.{is_among, fragment_name, fragment_names}
