-- What a node is, from what its tree lends of it.
use Rattle.std.specs.Prelude.{ℕ}
use Rattle.hnodes.specs.Forest.{What, document, doctype, element, comment, text}
use Rattle.hnodes.specs.Rows.{doctype_texts}
use Rattle.hserialize.specs.declared.node_view.NodeView.{NodeView}
use Rattle.hserialize.specs.declared.node_view.NodeView.TheVariants as node

abbrev pub what_is : NodeView → What ℕ
what_is node.Document = document
what_is (node.Doctype d) = let t = doctype_texts d.now in doctype t.0 t.1 t.2
what_is (node.Element name attrs) = element name attrs
what_is (node.Comment t) = comment t.now
what_is (node.Text t) = text t.now
