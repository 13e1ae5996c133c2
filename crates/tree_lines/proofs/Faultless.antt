-- Lines that break no rule, and documents: each is the other's, one alone, and its tree is within the limits of a section.
pub use Rattle.tree_lines.proofs.Closing.{document_from_faultless}
pub use Rattle.tree_lines.proofs.OneDocument.{one_document}
pub use Rattle.tree_lines.proofs.Limits.{document_whole}
