-- What makes comparisons coherent, whatever is compared.
pub mod Relations
-- By which settings, and over which tables, the derived comparisons and `Hash` are coherent.
pub mod Lawful
-- What is promised of the functions of a definition's items.
pub mod Coherence
