-- Words of the code's own data and loops (our choice). No public clause reaches them: contracts of private functions say
-- how they stand to the definitions.
pub mod SourceCounts
pub mod Each
pub mod SavedTables
